-- A row passes exactly when every code stands on it; otherwise the lowest code that does not is named. A code has a place
-- exactly if it stands, so the search, code after code, meets the claim; and of two lowest codes neither is lower.
use mathlib.Core.Path.{◌≡◌, refl, ap, subst}
use mathlib.Core.List.{List, [], ◌∷◌}
use Prim.Native.Nat.{ℕ, zero, suc, ◌+◌, ◌<◌}
use native.Mathlib.Omega.{arith}
use native.Mathlib.Nat.{le_antisymm}
use lib.ListN.{length}
use Rattle.words.specs.Stand.{StandsSomeWay}
use Rattle.words.proofs.Lists.{each_in}
use Rattle.words.proofs.Deciding.{by_cases, not_lt}
use Rattle.words.proofs.Placing.{found_exactly}
use Rattle.greedy.specs.Dropping.{code_at}
use Rattle.greedy.specs.Rules.{AllStand}
use Rattle.greedy.proofs.Keeping.{code_in_lem}
use Rattle.checking.specs.Check.{Missing, none_missing, missing, IsMissing, all_held, lowest, Misses}
use Rattle.checking.specs.Check.{missing_from, missing_on}

module _ (turn : List ℕ → List ℕ) (row : List ℕ) where
  -- the same of codes that are numbered from i on
  data From (i : ℕ) (cs : List (List ℕ)) : Missing → Type 0 where
    every : AllStand turn cs row → From i cs none_missing
    first : (k n : ℕ) → i + k ≡ n → k < length cs → (StandsSomeWay turn (code_at cs k) row → ⊥)
        → ((j : ℕ) → j < k → StandsSomeWay turn (code_at cs j) row) → From i cs (missing n)

  stands_first : {i : ℕ} {c : List ℕ} {cs : List (List ℕ)} {x : Missing} → StandsSomeWay turn c row → From (suc i) cs x
      → From i (c ∷ cs) x
  stands_first h (every a) = every (h, a)
  stands_first {i} {c} {cs} h (first k n e l x f) = first (suc k) n (omega arith) (omega arith) x lower
    where
      lower : (j : ℕ) → j < suc k → StandsSomeWay turn (code_at (c ∷ cs) j) row
      lower zero m = h
      lower (suc j) m = f j (omega arith)

  searched : (i : ℕ) (cs : List (List ℕ)) → From i cs (missing_from turn i cs row)
  searched i [] = every tt
  searched i (c ∷ cs) =
      by_cases
      (From i (c ∷ cs))
      (found_exactly turn c row)
      (λ h. stands_first h (searched (suc i) cs))
      (λ x. first 0 i (omega arith) (omega arith) x (λ j l. absurd (omega arith)))

pub misses_ours : (turn : List ℕ → List ℕ) → Misses turn (missing_on turn)
misses_ours turn cs row = from (searched turn row 0 cs)
  where
    from : {x : Missing} → From turn row 0 cs x → IsMissing turn cs row x
    from (every a) = all_held a
    from (first k n e l x f) =
        subst (λ (m : ℕ). IsMissing turn cs row (missing m)) {x = k} {y = n} (omega arith) (lowest l x f)

pub stands_at : (turn : List ℕ → List ℕ) (cs : List (List ℕ)) (row : List ℕ) (k : ℕ) → k < length cs → AllStand turn cs row
    → StandsSomeWay turn (code_at cs k) row
stands_at turn cs row k l a = each_in (λ c. StandsSomeWay turn c row) cs (code_at cs k) a (code_in_lem cs k l)

module _ {turn : List ℕ → List ℕ} {cs : List (List ℕ)} {row : List ℕ} where
  pub missing_one : {x y : Missing} → IsMissing turn cs row x → IsMissing turn cs row y → x ≡ y
  missing_one (all_held a) (all_held b) = refl
  missing_one (all_held a) (lowest {k} l n f) = absurd (n (stands_at turn cs row k l a))
  missing_one (lowest {k} l n f) (all_held b) = absurd (n (stands_at turn cs row k l b))
  missing_one (lowest l n f) (lowest m o g) =
      ap missing (le_antisymm (not_lt (λ h. o (f _ h))) (not_lt (λ h. n (g _ h))))

pub misses_only : {turn : List ℕ → List ℕ} (check : List (List ℕ) → List ℕ → Missing) → Misses turn check
    → (cs : List (List ℕ)) (row : List ℕ) → check cs row ≡ missing_on turn cs row
misses_only {turn} check h cs row = missing_one (h cs row) (misses_ours turn cs row)

-- A supplied ribbon passes exactly when every code stands on it.
pub passes_exactly : (turn : List ℕ → List ℕ) (cs : List (List ℕ)) (row : List ℕ)
    → (missing_on turn cs row ≡ none_missing → AllStand turn cs row)
    × (AllStand turn cs row → missing_on turn cs row ≡ none_missing)
passes_exactly turn cs row = (there (misses_ours turn cs row), λ a. missing_one (misses_ours turn cs row) (all_held a))
  where
    there : {x : Missing} → IsMissing turn cs row x → x ≡ none_missing → AllStand turn cs row
    there (all_held a) e = a
    there (lowest l n f) e = let z : ◌≡◌ {A = ℕ} 0 1 = cc in absurd (omega arith)
