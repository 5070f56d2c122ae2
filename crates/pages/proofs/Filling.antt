-- Two texts one behind the other, written from the beginning of a buffer on.
use mathlib.Core.Path.{◌≡◌, ◌∙◌}
use mathlib.Core.List.{List, ◌++◌}
use Prim.Native.Nat.{ℕ}
use native.Mathlib.Omega.{arith}
use Rattle.words.specs.Written.{Written}
use Rattle.words.proofs.Written.{both_written}
use Rattle.lists.proofs.Runs.{written_over}
use Rattle.pages.specs.Pages.{PutsSheet}

-- two texts from the beginning on, on a buffer that is left as the second text leaves it
pub both_put : {row a b mid after left : List ℕ} {k end : ℕ} → Written row 0 a mid k → Written mid k b after end → left ≡ after
    → PutsSheet (a ++ b) row left end
both_put v w e =
    let all = written_over (both_written (omega arith) v w) in
    record { long = all.0; left = e ∙ all.1 }
