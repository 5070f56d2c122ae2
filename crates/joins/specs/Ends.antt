-- Rounds end (M-112). Whichever allowed joins were made: while more than one mirrored pair of pieces is left, another join is
-- allowed, if only one of overlap 0. So there is one for the rule to choose, and document 01's rounds end with one mirrored pair.
use Rattle.std.specs.Prelude.{List, ◌++◌, ℕ, ◌+◌, ◌*◌, ◌≤◌, length}
use Rattle.joins.specs.Faces.{Join}
use Rattle.joins.specs.Rules.{Allowed, Chosen, Run, Remains, Joins}

-- there is a join that may be picked
pub record Some (Picks : List Join → ℕ → ℕ → Type 0) (js : List Join) : Type 0 where
  pub a : ℕ
  pub b : ℕ
  pub picked : Picks js a b

-- for every run of allowed joins, whichever of them each round took
abbrev pub AlwaysAllowed : Type 0
AlwaysAllowed = (n : ℕ) (js : List Join) → Run (Allowed n) js → (Remains n js → ⊥) → Some (Allowed n) js

-- and so, whatever two faces share:
pub record RoundsEnd (n : ℕ) (w : ℕ → ℕ → ℕ) : Type 0 where
  -- while several pieces remain there is a chosen join, even after joins that were allowed and not chosen;
  pub chosen : (js : List Join) → Run (Allowed n) js → (Remains n js → ⊥) → Some (Chosen n w) js
  -- no run has more rounds, of two joins each, than there are kept codes after the first;
  pub at_most : (js : List Join) → Run (Allowed n) js → 1 ≤ n → 2 + length js ≤ 2 * n
  -- and wherever chosen joins have led, some more lead to one mirrored pair
  pub ends : (js : List Join) → Run (Chosen n w) js → (more : List Join) × Joins (Chosen n w) n (more ++ js)

abbrev pub AlwaysEnd : Type 0
AlwaysEnd = (n : ℕ) (w : ℕ → ℕ → ℕ) → RoundsEnd n w
