-- Our rounds: each finds the join that the rule chooses, none lacks a join, and in the end two mirrored pieces remain.
use mathlib.Core.Path.{◌≡◌, refl, sym, subst, ◌∙◌}
use mathlib.Core.Logic.{inl, inr}
use mathlib.Core.Bool.{true≢false}
use mathlib.Core.List.{List, [], ◌∷◌}
use Prim.Native.Nat.{ℕ, zero, suc, ◌+◌, ◌-◌, ◌*◌, ◌≤◌}
use native.Mathlib.Omega.{arith}
use lib.ListN.{length}
use Rattle.words.proofs.Deciding.{holds, fails, passes, not_lt}
use Rattle.joins.specs.Faces.{Join, join, join_both}
use Rattle.joins.specs.Rules.{Allowed, Largest, Chosen, Run, start, round, Remains, Joins}
use Rattle.joins.specs.Ends.{Some}
use Rattle.joins.specs.Rounds.{allowed, Best, none, best, pairs, below, best_join, rounds_from, layout_of}
use Rattle.joins.proofs.State.{State}
use Rattle.joins.proofs.Allowed.{is_allowed}
use Rattle.joins.proofs.Ruled.{run_map, open_allowed, allowed_open}
use Rattle.joins.proofs.Runs.{all_allowed, Reached, reached_allowed, none_left, one_left, two_join}
use Rattle.joins.proofs.Search.{BestIn, Searched, searched, all_pairs, only_pairs}
use Rattle.joins.proofs.Ties.{Beats, is_better, comparison}

pub all_largest : {n : ℕ} {w : ℕ → ℕ → ℕ} {js : List Join} → Run (Chosen n w) js → Run (Largest n w) js
all_largest r = run_map (λ ls a b c. c.largest) r

-- the rule chooses among allowed joins
pub chosen_allowed : {n : ℕ} {w : ℕ → ℕ → ℕ} {js : List Join} → Run (Chosen n w) js → Run (Allowed n) js
chosen_allowed r = all_allowed (all_largest r)

module _ (n : ℕ) (w : ℕ → ℕ → ℕ) where
  -- all joins that are tried
  abbrev tried : List Join
  tried = pairs (below (2 * n)) (below (2 * n))

  -- after whichever allowed joins
  module _ {js : List Join} (r : Run (Allowed n) js) where
    R : Reached n (λ a b. 0) js
    R = reached_allowed r

    -- the join that is best by the comparison is the one that the rule chooses,
    chosen : (j : Join) → BestIn (comparison w) (allowed n js) tried j → Chosen n w js j.left j.right
    chosen j b =
        record {
          largest = record { allowed = by_rule; most = λ c d A. not_lt (λ l. unbeaten c d A (inl l)) };
          lowest_a = λ c d A e. not_lt (λ l. unbeaten c d A (inr (sym e, inl l)));
          lowest_b = λ d A e. not_lt (λ l. unbeaten j.left d A (inr (sym e, inr (refl, inl l))));
        }
      where
        by_rule : Allowed n js j.left j.right
        by_rule =
            let l = only_pairs (2 * n) j b.listed in
            let o = holds (is_allowed n js j.left j.right) b.allowed in
            open_allowed r R.state j.left j.right l.0 l.1 o

        unbeaten : (c d : ℕ) → Allowed n js c d → Beats w (join c d) j → ⊥
        unbeaten c d A =
            let may = passes (is_allowed n js c d) (allowed_open r R.state c d A) in
            let i = all_pairs (2 * n) c d A.faces.0 A.faces.1 in
            fails (is_better w (join c d) j) (b.unbeaten (join c d) i may)

    -- and the search finds it where any is allowed
    not_none : Some (Allowed n) js → Searched (comparison w) (allowed n js) tried none → ⊥
    not_none s h =
        let A = s.picked in
        let may = passes (is_allowed n js s.a s.b) (allowed_open r R.state s.a s.b A) in
        true≢false (sym may ∙ h _ (all_pairs (2 * n) s.a s.b A.faces.0 A.faces.1))

    pub some_chosen : Some (Allowed n) js → Some (Chosen n w) js
    some_chosen s = go (best_join n w js) (searched (comparison w) (allowed n js) tried)
      where
        go : (x : Best) → Searched (comparison w) (allowed n js) tried x → Some (Chosen n w) js
        go none h = absurd (not_none s h)
        go (best j) b = record { a = j.left; b = j.right; picked = chosen j b }

    -- one is allowed while two pieces are left,
    two_left : (Q : List (List ℕ)) → State n js Q → 2 ≤ length Q → Some (Allowed n) js
    two_left [] i l = absurd (omega arith)
    two_left (p ∷ []) i l = absurd (omega arith)
    two_left (p ∷ (q ∷ Q)) i l = two_join r i

    -- and when one is left, it remains with its mirror
    remains : (Q : List (List ℕ)) → State n js Q → length Q ≡ 1 → Remains n js
    remains [] i l = absurd (omega arith)
    remains (p ∷ []) i l = one_left r p i
    remains (p ∷ (q ∷ Q)) i l = absurd (omega arith)

  -- f rounds are left to go
  pub rounds : (f : ℕ) (js : List Join) → Run (Chosen n w) js → 2 * suc f + length js ≡ 2 * n
      → Joins (Chosen n w) n (rounds_from f n w js)
  rounds zero js r e =
      let made = chosen_allowed r in
      let M = R made in
      record { rounds = r; remains = remains made M.pieces M.state (omega (arith, M.count)) }
  rounds (suc f) js r e = go (best_join n w js) refl (searched (comparison w) (allowed n js) tried) (rounds f)
    where
      made : Run (Allowed n) js
      made = chosen_allowed r

      go : (x : Best) → best_join n w js ≡ x → Searched (comparison w) (allowed n js) tried (best_join n w js)
          → ((ls : List Join) → Run (Chosen n w) ls → 2 * suc f + length ls ≡ 2 * n
          → Joins (Chosen n w) n (rounds_from f n w ls))
          → Joins (Chosen n w) n (rounds_from (suc f) n w js)
      go none q s later =
          let h = subst (Searched (comparison w) (allowed n js) tried) q s in
          let M = R made in
          absurd (not_none made (two_left made M.pieces M.state (omega (arith, M.count))) h)
      go (best j) q s later =
          let b = subst (Searched (comparison w) (allowed n js) tried) q s in
          let o : rounds_from (suc f) n w js ≡ rounds_from f n w (join_both j.left j.right js) = rw (q, rounds_from) in
          rw o (later _ (round r (chosen made j b)) (omega arith))

-- no codes: nothing is joined, and nothing is left
pub joins_ours : (n : ℕ) (w : ℕ → ℕ → ℕ) → Joins (Chosen n w) n (layout_of n w)
joins_ours zero w = record { rounds = start; remains = none_left start refl }
joins_ours (suc m) w =
    let n = suc m in
    rounds n w (n - 1) [] start (omega arith)
