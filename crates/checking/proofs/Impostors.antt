-- Wrong checks, each written out and caught by the claim on a named list and row.
use mathlib.Core.Path.{◌≡◌, refl}
use mathlib.Core.Bool.{Bool, true, false}
use mathlib.Core.List.{List, [], ◌∷◌}
use Prim.Native.Nat.{ℕ, suc}
use native.Mathlib.Omega.{arith}
use Rattle.words.specs.Turn.{turned}
use Rattle.words.specs.Stand.{stands_in, some_way}
use Rattle.words.specs.Texts.{text}
use Rattle.words.proofs.Deciding.{decides_one}
use Rattle.words.proofs.Standing.{is_some_way}
use Rattle.words.proofs.Placing.{found_exactly}
use Rattle.checking.specs.Check.{Missing, none_missing, missing, Misses, missing_from, missing_on}
use Rattle.checking.proofs.Check.{misses_only}

-- the first code of which a test is false, counted from a number on; of two codes without a place the last
abbrev first_from : (List ℕ → List ℕ → Bool) → ℕ → List (List ℕ) → List ℕ → Missing
first_from test i [] row = none_missing
first_from test i (c ∷ cs) row = elim (test c row) [ true ↦ first_from test (suc i) cs row | false ↦ missing i ]

abbrev later : Missing → ℕ → Missing
later none_missing i = missing i
later (missing k) i = missing k

abbrev last_from : ℕ → List (List ℕ) → List ℕ → Missing
last_from i [] row = none_missing
last_from i (c ∷ cs) row = elim (some_way turned c row) [
  | true ↦ last_from (suc i) cs row
  | false ↦ later (last_from (suc i) cs row) i
]

-- the right one is the first of which the right test is false, counted from 0
pub right_is_ours : (cs : List (List ℕ)) (row : List ℕ) → first_from (some_way turned) 0 cs row ≡ missing_on turned cs row
right_is_ours cs row = from 0 cs
  where
    from : (i : ℕ) (cs : List (List ℕ)) → first_from (some_way turned) i cs row ≡ missing_from turned i cs row
    from i [] = refl
    from i (c ∷ cs) =
        let e = decides_one (is_some_way turned c row) (found_exactly turned c row) in
        let r = from (suc i) cs in
        cc

-- missing before any search; held whatever the row; one direction only; the last code missing; numbers from 1
abbrev missing_at_once : List (List ℕ) → List ℕ → Missing
missing_at_once cs row = missing 0

abbrev always_held : List (List ℕ) → List ℕ → Missing
always_held cs row = none_missing

abbrev one_direction : List (List ℕ) → List ℕ → Missing
one_direction = first_from stands_in 0

abbrev last_missing : List (List ℕ) → List ℕ → Missing
last_missing = last_from 0

abbrev from_one : List (List ℕ) → List ℕ → Missing
from_one = first_from (some_way turned) 1

-- AB on BA
pub not_missing_at_once : Misses turned missing_at_once → ⊥
unfolding turned
not_missing_at_once h =
    let e : missing 0 ≡ none_missing = misses_only missing_at_once h (text "AB" ∷ []) (text "BA") in
    let z : ◌≡◌ {A = ℕ} 0 1 = cc in
    omega arith

-- AB on no bands
pub not_always_held : Misses turned always_held → ⊥
unfolding turned
not_always_held h =
    let e : none_missing ≡ missing 0 = misses_only always_held h (text "AB" ∷ []) [] in
    let z : ◌≡◌ {A = ℕ} 0 1 = cc in
    omega arith

-- AB on BA
pub not_one_direction : Misses turned one_direction → ⊥
unfolding turned
not_one_direction h =
    let e : missing 0 ≡ none_missing = misses_only one_direction h (text "AB" ∷ []) (text "BA") in
    let z : ◌≡◌ {A = ℕ} 0 1 = cc in
    omega arith

-- AB and CD on no bands
pub not_last_missing : Misses turned last_missing → ⊥
unfolding turned
not_last_missing h =
    let e : missing 1 ≡ missing 0 = misses_only last_missing h (text "AB" ∷ text "CD" ∷ []) [] in
    let z : ◌≡◌ {A = ℕ} 1 0 = cc in
    omega arith

-- AB on no bands
pub not_from_one : Misses turned from_one → ⊥
unfolding turned
not_from_one h =
    let e : missing 1 ≡ missing 0 = misses_only from_one h (text "AB" ∷ []) [] in
    let z : ◌≡◌ {A = ℕ} 1 0 = cc in
    omega arith
