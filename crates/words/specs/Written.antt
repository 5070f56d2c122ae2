-- A word written on a row.
use Rattle.std.specs.Prelude.{◌≡◌, List, ◌++◌, ℕ, ◌+◌, length, take, drop}

-- s stands on the row from a place on, what was before and behind it is kept; and the place behind s
pub record Written (row : List ℕ) (at : ℕ) (s after : List ℕ) (end : ℕ) : Type 0 where
  pub after_is : after ≡ take at row ++ (s ++ drop (at + length s) row)
  pub end_is : end ≡ at + length s
