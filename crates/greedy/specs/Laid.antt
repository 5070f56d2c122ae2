-- Demands 2 and 3 about a list and its ribbon.
use Rattle.std.specs.Prelude.{◌≡◌, List, ℕ, ◌+◌, length}
use Rattle.words.specs.Turn.{Turning}
use Rattle.lists.specs.Runs.{total, lengths}
use Rattle.joins.specs.Rules.{Chosen}
use Rattle.greedy.specs.Dropping.{kept}
use Rattle.greedy.specs.Rules.{Lays, AllStand, AtMostTwice}
use Rattle.greedy.specs.Layout.{ribbon_for, saved_by}

pub record Laid (turn : List ℕ → List ℕ) (cs : List (List ℕ)) : Type 0 where
  -- the ribbon is the one of Greedy-R2 with our tie rule,
  pub by_rule : Lays Chosen turn cs (ribbon_for turn cs) (saved_by turn cs)
  -- and every listed code stands on it one way or the other
  pub all_stand : AllStand turn cs (ribbon_for turn cs)
  -- its bands and the bands saved add up to those of the kept codes
  pub adds_up : length (ribbon_for turn cs) + saved_by turn cs ≡ total (lengths (kept turn cs))
  -- demand 3, of the saved that we report
  pub at_most_twice : AtMostTwice turn cs (saved_by turn cs)

-- for every list, and for every way of turning
abbrev pub EachLaid : Type 0
EachLaid = (turn : List ℕ → List ℕ) → Turning turn → (cs : List (List ℕ)) → Laid turn cs
