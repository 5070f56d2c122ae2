-- Whether every code has a place on a row, and if not, which is the lowest that has none.
use Rattle.std.specs.Prelude.{true, false, List, [], ◌∷◌, ℕ, suc, ◌<◌, length}
use Rattle.words.specs.Stand.{StandsSomeWay}
use Rattle.words.specs.Place.{place_of, found}
use Rattle.greedy.specs.Dropping.{code_at}
use Rattle.greedy.specs.Rules.{AllStand}

-- all codes have a place, or this is the lowest number of one that has none
pub data Missing : Type 0 where
  none_missing : Missing
  missing : ℕ → Missing

-- A supplied ribbon passes exactly when every code stands on it; otherwise the answer is the lowest code number that has
-- no place.
module _ (turn : List ℕ → List ℕ) (cs : List (List ℕ)) (row : List ℕ) where
  pub data IsMissing : Missing → Type 0 where
    all_held : AllStand turn cs row → IsMissing none_missing
    lowest : {k : ℕ} → k < length cs → (StandsSomeWay turn (code_at cs k) row → ⊥)
        → ((j : ℕ) → j < k → StandsSomeWay turn (code_at cs j) row) → IsMissing (missing k)

-- The claim that pins the check's search.
abbrev pub Misses : (List ℕ → List ℕ) → (List (List ℕ) → List ℕ → Missing) → Type 0
Misses turn check = (cs : List (List ℕ)) (row : List ℕ) → IsMissing turn cs row (check cs row)

-- Computed: the first of the codes has the number i.
abbrev pub missing_from : (List ℕ → List ℕ) → ℕ → List (List ℕ) → List ℕ → Missing
missing_from turn i [] row = none_missing
missing_from turn i (c ∷ cs) row = elim (found (place_of turn 0 c row)) [
  | true ↦ missing_from turn (suc i) cs row
  | false ↦ missing i
]

abbrev pub missing_on : (List ℕ → List ℕ) → List (List ℕ) → List ℕ → Missing
missing_on turn cs row = missing_from turn 0 cs row
