-- Rounds end, whichever allowed join each takes. A run has reached some pieces, and as many rounds are left to go as there are
-- pieces after the first. Of two pieces the end of the one may be joined to the beginning of the other, and the search over
-- all joins then finds the one that the rule chooses. Our rounds, begun where chosen joins have led, only add joins, and end.
use mathlib.Core.Path.{◌≡◌, refl, sym, subst, ◌∙◌}
use mathlib.Core.Logic.{◌⊎◌, inl, inr}
use mathlib.Core.List.{List, [], ◌∷◌, ◌++◌, append_assoc}
use Prim.Native.Nat.{ℕ, zero, suc, ◌+◌, ◌*◌, ◌≤◌}
use native.Mathlib.Omega.{arith}
use lib.ListN.{length}
use Rattle.joins.specs.Faces.{mirror, Join, join, join_both}
use Rattle.joins.specs.Rules.{Allowed, Chosen, Run, Remains, Joins}
use Rattle.joins.specs.Ends.{Some, AlwaysAllowed, AlwaysEnd}
use Rattle.joins.specs.Rounds.{Best, none, best, best_join, rounds_from}
use Rattle.joins.proofs.State.{State, state_size}
use Rattle.joins.proofs.Runs.{Reached, reached_allowed, none_left, goes_on}
use Rattle.joins.proofs.Rounds.{chosen_allowed, some_chosen, rounds}

pub always_allowed : AlwaysAllowed
always_allowed n js r several = go (goes_on r)
  where
    go : Remains n js ⊎ Some (Allowed n) js → Some (Allowed n) js
    go (inl e) = absurd (several e)
    go (inr s) = s

-- one piece at least is left
few : {n : ℕ} {js : List Join} → Run (Allowed n) js → 1 ≤ n → 2 + length js ≤ 2 * n
few {n} {js} r l = go M.pieces M.state M.count
  where
    M : Reached n (λ a b. 0) js
    M = reached_allowed r

    go : (Q : List (List ℕ)) → State n js Q → 2 * length Q + length js ≡ 2 * n → 2 + length js ≤ 2 * n
    go [] i c = absurd (omega (arith, state_size i))
    go (p ∷ Q) i c = omega arith

module _ (n : ℕ) (w : ℕ → ℕ → ℕ) where
  -- rounds only add joins
  adds : (f : ℕ) (js : List Join) → (more : List Join) × (rounds_from f n w js ≡ more ++ js)
  adds zero js = ([], refl)
  adds (suc f) js = go (best_join n w js) refl (adds f)
    where
      go : (x : Best) → best_join n w js ≡ x
          → ((ls : List Join) → (more : List Join) × (rounds_from f n w ls ≡ more ++ ls))
          → (more : List Join) × (rounds_from (suc f) n w js ≡ more ++ js)
      go none q later = ([], rw (q, rounds_from))
      go (best j) q later =
          let both = join j.left j.right ∷ (join (mirror j.right) (mirror j.left) ∷ []) in
          let m = later (join_both j.left j.right js) in
          (m.0 ++ both, rw (q, rounds_from) (m.1 ∙ sym (append_assoc m.0 both js)))

  to_the_end : (js : List Join) → Run (Chosen n w) js → (more : List Join) × Joins (Chosen n w) n (more ++ js)
  to_the_end js r = go M.pieces M.state M.count
    where
      M : Reached n (λ a b. 0) js
      M = reached_allowed (chosen_allowed r)

      go : (Q : List (List ℕ)) → State n js Q → 2 * length Q + length js ≡ 2 * n
          → (more : List Join) × Joins (Chosen n w) n (more ++ js)
      go [] i c = ([], record { rounds = r; remains = none_left (chosen_allowed r) (state_size i) })
      go (p ∷ Q) i c =
          let m = adds (length Q) js in
          (m.0, subst (Joins (Chosen n w) n) m.1 (rounds n w (length Q) js r c))

pub always_end : AlwaysEnd
always_end n w =
    record {
      chosen = λ js r several. some_chosen n w r (always_allowed n js r several);
      at_most = λ js r l. few r l;
      ends = λ js r. to_the_end n w js r;
    }
