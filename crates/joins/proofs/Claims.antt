-- The claim on joining leaves no choice: whatever meets it makes our joins, and what is read of them is one piece.
-- Of two joins that the rule could choose, each is as large and as low as the other, so they are the same. When two
-- mirrored pieces remain no join is allowed, so that two runs end with the same round too.
use mathlib.Core.Path.{◌≡◌, refl, sym, subst}
use mathlib.Core.List.{List}
use Prim.Native.Nat.{ℕ, suc, ◌%◌, ◌≤◌}
use native.Mathlib.Omega.{arith}
use native.Mathlib.Decide.{dec_le}
use native.Mathlib.Nat.{le_antisymm}
use lib.ListN.{length}
use Rattle.words.specs.Lists.{In}
use Rattle.joins.specs.Faces.{Join, join_both}
use Rattle.joins.specs.Rules.{IsPiece, Allowed, Chosen, Run, start, round, Joins, Joiner}
use Rattle.joins.specs.Rounds.{layout_of}
use Rattle.joins.proofs.Ruled.{piece_of, same_piece}
use Rattle.joins.proofs.Runs.{all_allowed, finished}
use Rattle.joins.proofs.Rounds.{all_largest, joins_ours}

pub joiner_ours : Joiner layout_of
joiner_ours n w = joins_ours n w

module _ {n : ℕ} {w : ℕ → ℕ → ℕ} where
  chosen_one : {js : List Join} {a b c d : ℕ} → Chosen n w js a b → Chosen n w js c d → (a ≡ c) × (b ≡ d)
  chosen_one {js} {a} {b} {c} {d} x y =
      (first, le_antisymm (x.lowest_b d there tie) (y.lowest_b b back (sym tie')))
    where
      A : Allowed n js a b
      A = x.largest.allowed

      C : Allowed n js c d
      C = y.largest.allowed

      as_large : w c d ≡ w a b
      as_large = le_antisymm (x.largest.most c d C) (y.largest.most a b A)

      first : a ≡ c
      first = le_antisymm (x.lowest_a c d C as_large) (y.lowest_a a b A (sym as_large))

      there : Allowed n js a d
      there = subst (λ (f : ℕ). Allowed n js f d) (sym first) C

      back : Allowed n js c b
      back = subst (λ (f : ℕ). Allowed n js f b) first A

      tie : w a d ≡ w a b
      tie = subst (λ (f : ℕ). w f d ≡ w a b) (sym first) as_large

      tie' : w c d ≡ w c b
      tie' = subst (λ (f : ℕ). w c d ≡ w f b) first as_large

  round_one : {js ls : List Join} {a b c d : ℕ} → js ≡ ls → Chosen n w js a b → Chosen n w ls c d
      → join_both a b js ≡ join_both c d ls
  round_one {c = c} {d = d} e x y =
      let r = chosen_one x (subst (λ (l : List Join). Chosen n w l c d) (sym e) y) in
      cc (r.0, r.1)

  run_one : {js ls : List Join} → Run (Chosen n w) js → Run (Chosen n w) ls → length js ≡ length ls → js ≡ ls
  run_one start start e = refl
  run_one start (round r c) e = absurd (omega arith)
  run_one (round r c) start e = absurd (omega arith)
  run_one (round r c) (round s d) e = round_one (run_one r s (omega arith)) c d

  run_even : {js : List Join} → Run (Chosen n w) js → length js % 2 ≡ 0
  run_even start = refl
  run_even (round r c) = omega (arith, run_even r)

  -- no run goes on after one that is done
  more_one : {js ls : List Join} {a b : ℕ} → Joins (Chosen n w) n js → Run (Chosen n w) ls → Chosen n w ls a b
      → length js ≤ suc (suc (length ls)) → (length js ≤ length ls → js ≡ ls) → js ≡ join_both a b ls
  more_one {js} {ls} {a} {b} x r c l ih = go (dec_le (length js) (length ls))
    where
      go : Dec (length js ≤ length ls) → js ≡ join_both a b ls
      go (yes h) =
          let d = subst (λ (l : List Join). Chosen n w l a b) (sym (ih h)) c in
          absurd (finished (all_allowed (all_largest x.rounds)) x.remains d.largest.allowed)
      go (no m) = run_one x.rounds (round r c) (omega (arith, run_even x.rounds, run_even r))

  done_one : {js ls : List Join} → Joins (Chosen n w) n js → Run (Chosen n w) ls → length js ≤ length ls → js ≡ ls
  done_one x start l = run_one x.rounds start (omega arith)
  done_one x (round r c) l = more_one x r c l (λ h. done_one x r h)

  pub joins_one : {js ls : List Join} → Joins (Chosen n w) n js → Joins (Chosen n w) n ls → js ≡ ls
  joins_one {js} {ls} x y = go (dec_le (length js) (length ls))
    where
      go : Dec (length js ≤ length ls) → js ≡ ls
      go (yes h) = done_one x y.rounds h
      go (no m) = sym (done_one y x.rounds (omega arith))

  pub joins_only : {js : List Join} → Joins (Chosen n w) n js → js ≡ layout_of n w
  joins_only x = joins_one x (joins_ours n w)

  -- and one piece of them holds face 0
  pub piece_one : {js : List Join} → Run (Chosen n w) js → (p q : List ℕ) → IsPiece js p → IsPiece js q → In 0 p → In 0 q
      → p ≡ q
  piece_one {js} r p q P Q x y =
      let a = all_allowed (all_largest r) in
      same_piece js p q 0 (piece_of a p P) (piece_of a q Q) x y

pub joiner_only : (make : ℕ → (ℕ → ℕ → ℕ) → List Join) → Joiner make → (n : ℕ) (w : ℕ → ℕ → ℕ)
    → make n w ≡ layout_of n w
joiner_only make h n w = joins_only (h n w)
