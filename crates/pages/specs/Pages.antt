-- What writing a sheet row after row leaves.
use Rattle.std.specs.Prelude.{◌≡◌, List, ℕ, length}
use Rattle.lists.specs.Runs.{over}

-- A text written at the beginning of a lent buffer, with its length.
pub record PutsSheet (sheet before after : List ℕ) (r : ℕ) : Type 0 where
  pub long : r ≡ length sheet
  pub left : after ≡ over sheet before
