-- The state of the rounds: the joins made so far describe pieces in which each of K codes has one face.
-- It is so at the start, and of any arrangement of the pieces.
use mathlib.Core.Path.{◌≡◌, refl, sym, ap, ◌∙◌}
use mathlib.Core.Logic.{◌≢◌}
use mathlib.Core.List.{List, [], ◌∷◌}
use Prim.Native.Nat.{ℕ, zero, suc, ◌+◌, ◌*◌, ◌/◌, ◌≤◌, ◌<◌}
use native.Mathlib.Omega.{arith}
use native.Mathlib.Decide.{ℕ_discrete, dec_le}
use lib.ListN.{length}
use Rattle.words.specs.Lists.{In, Each}
use Rattle.joins.specs.Faces.{mirror, Join}
use Rattle.joins.proofs.Sums.{sum, sum_same, sum-length, sum-turned}
use Rattle.joins.proofs.Mirrors.{mirror_half}
use Rattle.joins.proofs.Pieces.{is_of, times_of, is_of_lem, not_of, of_mirror, in_times}
use Rattle.joins.proofs.Arrange.{Arr, arr_each}
use Rattle.joins.proofs.Links.{Piece, piece_flip}

-- a piece for each of n codes from number k on: its face as given
abbrev pub singles : ℕ → ℕ → List (List ℕ)
singles k zero = []
singles k (suc n) = ((2 * k) ∷ []) ∷ singles (suc k) n

-- what is added up over faces, and is the same of a face and of its mirror, stays what it was at the start
pub record State (K : ℕ) (js : List Join) (Q : List (List ℕ)) : Type 0 where
  pub pieces : Each (Piece js) Q
  pub codes : (u : ℕ → ℕ) → ((f : ℕ) → u (mirror f) ≡ u f) → sum (sum u) Q ≡ sum (sum u) (singles 0 K)

pub state_start : (K : ℕ) → State K [] (singles 0 K)
state_start K = record { pieces = single 0 K; codes = λ u e. refl }
  where
    single : (k n : ℕ) → Each (Piece []) (singles k n)
    single k zero = tt
    single k (suc n) = (record { some = tt; linked = tt; starts = refl; ends = refl }, single (suc k) n)

pub state_arr : {K : ℕ} {js : List Join} {Q A : List (List ℕ)} → State K js Q → Arr Q A → State K js A
state_arr {K} {js} i r =
    record {
      pieces = arr_each (Piece js) (piece_flip js) r i.pieces;
      codes = λ u e. sym (r.sums (sum u) (sum-turned u mirror e)) ∙ i.codes u e;
    }

-- each code once
times_below : (k i n : ℕ) → k < i → sum (times_of k) (singles i n) ≡ 0
times_below k i zero h = refl
times_below k i (suc n) h = omega (arith, not_of k (2 * i) (omega arith), times_below k (suc i) n (omega arith))

times_above : (k i n : ℕ) → i + n ≤ k → sum (times_of k) (singles i n) ≡ 0
times_above k i zero h = refl
times_above k i (suc n) h = omega (arith, not_of k (2 * i) (omega arith), times_above k (suc i) n (omega arith))

times_among : (k i n : ℕ) → i ≤ k → k < i + n → sum (times_of k) (singles i n) ≡ 1
times_among k i zero h l = absurd (omega arith)
times_among k i (suc n) h l = go (ℕ_discrete k i) (times_among k (suc i) n)
  where
    go : Dec (k ≡ i) → (suc i ≤ k → k < suc i + n → sum (times_of k) (singles (suc i) n) ≡ 1)
        → sum (times_of k) (singles i (suc n)) ≡ 1
    go (yes e) ih = omega (arith, is_of_lem k (2 * i) (omega arith), times_below k (suc i) n (omega arith))
    go (no d) ih = omega (arith, not_of k (2 * i) (omega arith), ih (omega arith) (omega arith))

size_singles : (k n : ℕ) → sum (sum (λ (f : ℕ). 1)) (singles k n) ≡ n
size_singles k zero = refl
size_singles k (suc n) = omega (arith, size_singles (suc k) n)

module _ {K : ℕ} {js : List Join} {Q : List (List ℕ)} (i : State K js Q) where
  pub state_all : (k : ℕ) → k < K → sum (times_of k) Q ≡ 1
  state_all k l = i.codes (is_of k) (of_mirror k) ∙ times_among k 0 K (omega arith) (omega arith)

  none_above : (k : ℕ) → K ≤ k → sum (times_of k) Q ≡ 0
  none_above k l = i.codes (is_of k) (of_mirror k) ∙ times_above k 0 K (omega arith)

  pub state_most : (k : ℕ) → sum (times_of k) Q ≤ 1
  state_most k = go (dec_le K k)
    where
      go : Dec (K ≤ k) → sum (times_of k) Q ≤ 1
      go (yes h) = omega (arith, none_above k h)
      go (no h) = omega (arith, state_all k (omega arith))

  pub state_only : (k : ℕ) → 1 ≤ sum (times_of k) Q → k < K
  state_only k l = go (dec_le K k)
    where
      go : Dec (K ≤ k) → k < K
      go (yes h) = absurd (omega (arith, none_above k h))
      go (no h) = omega arith

  pub state_size : sum length Q ≡ K
  state_size =
      sum_same length (sum (λ (f : ℕ). 1)) (λ p. sym (sum-length p)) Q
      ∙ i.codes (λ f. 1) (λ f. refl)
      ∙ size_singles 0 K

-- two pieces have no code in common, so no face of the one is a face of the other or its mirror
module _ {K : ℕ} {js : List Join} {p q : List ℕ} {R : List (List ℕ)} (i : State K js (p ∷ (q ∷ R)))
    (f g : ℕ) (u : In f p) (v : In g q) where
  state_apart : f / 2 ≢ g / 2
  state_apart e = omega (arith, state_most i (f / 2), in_times f p u, in_times g q v, ap (λ (k : ℕ). times_of k q) e)

  pub state_differ : f ≢ g
  state_differ e = state_apart (ap (λ (x : ℕ). x / 2) e)

  pub state_cross : g ≢ mirror f
  state_cross e = state_apart (sym (ap (λ (x : ℕ). x / 2) e ∙ mirror_half f))
