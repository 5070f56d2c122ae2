-- The fall-backs of b are what a pass along b past its first band holds: with what b ends there, b begins. So the row of them
-- is filled by the same steps as any pass. Ours meet the claims on passes and on fall-backs, and nothing else does.
use mathlib.Core.Path.{◌≡◌}
use mathlib.Core.List.{List, [], ◌∷◌}
use Prim.Native.Nat.{ℕ, zero, suc, ◌+◌, ◌≤◌, ◌<◌}
use native.Mathlib.Omega.{arith}
use native.Mathlib.Numerals.{add-one}
use native.Mathlib.Nat.{le_antisymm}
use native.Mathlib.Decide.{dec_le}
use lib.ListN.{length, take, drop, get_or, set, length-drop, length-set}
use lib.Seq.{get_or-drop, get_or-set_same, get_or-set_other, length-take-le}
use Rattle.words.specs.Falling.{Held, FallBack, FallBacks, Filled, Follows, Advances, Holds, FallsBack, held_after, fall_back}
use Rattle.words.proofs.Overlaps.{shares_left, overlaps_ours, longest_only}
use Rattle.words.proofs.Falling.{shares_none, shares_behind, shares_end, held_more}

fall_back_held : (b : List ℕ) (k f : ℕ) → k < length b → FallBack b (suc k) f → Held (drop 1 b) b k f
fall_back_held [] k f l g = absurd (omega arith)
fall_back_held (y ∷ c) k f l g =
    let n : length (take k c) ≡ k = length-take-le k c (omega arith) in
    record {
      shares = shares_end (y ∷ []) (omega (arith, g.shorter)) g.ends;
      most = λ m h. g.longest m (omega (arith, shares_left h)) (shares_behind (y ∷ []) h);
    }

held_fall_back : (b : List ℕ) (k f : ℕ) → k < length b → Held (drop 1 b) b k f → FallBack b (suc k) f
held_fall_back [] k f l h = absurd (omega arith)
held_fall_back (y ∷ c) k f l h =
    let n : length (take k c) ≡ k = length-take-le k c (omega arith) in
    record {
      shorter = omega (arith, shares_left h.shares);
      ends = shares_behind (y ∷ []) h.shares;
      longest = λ m p s. h.most m (shares_end (y ∷ []) (omega arith) s);
    }

-- The claims.
pub holds_ours : Holds held_after
holds_ours a b i l = overlaps_ours (take i a) b

pub holds_only : (g : List ℕ → List ℕ → ℕ → ℕ) → Holds g → (a b : List ℕ) (i : ℕ) → i ≤ length a
    → g a b i ≡ held_after a b i
holds_only g h a b i l = longest_only (take i a) b (g a b i) (h a b i l)

pub falls_back_ours : FallsBack fall_back
falls_back_ours b zero z l = absurd (omega arith)
falls_back_ours [] (suc k) z l = absurd (omega arith)
falls_back_ours (y ∷ c) (suc k) z l =
    held_fall_back (y ∷ c) k (fall_back (y ∷ c) (suc k)) (omega arith) (overlaps_ours (take k c) (y ∷ c))

pub falls_back_only : (g : List ℕ → ℕ → ℕ) → FallsBack g → (b : List ℕ) (k : ℕ) → 0 < k → k ≤ length b
    → g b k ≡ fall_back b k
falls_back_only g h b k z l =
    let x = h b k z l in
    let y = falls_back_ours b k z l in
    le_antisymm (y.longest (g b k) x.shorter x.ends) (x.longest (fall_back b k) y.shorter y.ends)

-- The row.
fall_one : (b : List ℕ) → FallBack b 1 0
fall_one b = record { shorter = omega arith; ends = shares_none (take 1 b) b; longest = λ m l s. omega arith }

fall_more : (b : List ℕ) (i m x r : ℕ) → 0 < i → Follows b i x → FallBack b i m → Advances b m x r → FallBack b (i + 1) r
fall_more b zero m x r z n g f = absurd (omega arith)
fall_more b (suc k) m x r z n g f =
    let h : Held (drop 1 b) b k m = fall_back_held b k m (omega (arith, n.0)) g in
    let l : k < length (drop 1 b) = omega (arith, length-drop 1 b, n.0) in
    let o : 1 + k ≡ suc k = omega arith in
    let e : get_or (drop 1 b) k 0 ≡ x = rw (get_or-drop, o) n.1 in
    let w : Held (drop 1 b) b (k + 1) r = held_more (drop 1 b) b k m x r (l, e) h f in
    rw add-one (held_fall_back b (suc k) r n.0 (rw add-one at w))

pub falls_one : (b falls : List ℕ) → 1 < length falls → get_or falls 1 0 ≡ 0 → FallBacks b falls 1
falls_one b falls l e = record { room = l; each = each }
  where
    each : (k : ℕ) → 0 < k → k ≤ 1 → FallBack b k (get_or falls k 0)
    each k z p = let q : k ≡ 1 = omega arith in rw (q, e) (fall_one b)

module _ {b falls : List ℕ} {n : ℕ} (h : FallBacks b falls n) where
  pub falls_fewer : {k : ℕ} → k ≤ n → FallBacks b falls k
  falls_fewer l = record { room = omega (arith, h.room); each = λ j z p. h.each j z (omega arith) }

  -- from n bands to one more: the fall-back goes on with the band that follows in b
  falls_more : {m x r : ℕ} → 0 < n → m ≡ n + 1 → m < length falls → Follows b n x → Advances b (get_or falls n 0) x r
      → FallBacks b (set falls m r) m
  falls_more {m} {x} {r} z e o q f = record { room = rw length-set o; each = each }
    where
      new : FallBack b m r
      new = rw e (fall_more b n (get_or falls n 0) x r z q (h.each n z (omega arith)) f)

      each : (k : ℕ) → 0 < k → k ≤ m → FallBack b k (get_or (set falls m r) k 0)
      each k y p = go (dec_le k n)
        where
          go : Dec (k ≤ n) → FallBack b k (get_or (set falls m r) k 0)
          go (yes d) = rw (get_or-set_other falls m k r 0 (λ s. omega arith)) (h.each k y d)
          go (no d) = let s : k ≡ m = omega arith in rw (s, get_or-set_same falls m r 0 o) new

-- A row for a match, and for a longer one.
module _ {b falls : List ℕ} {n k : ℕ} (h : Filled b falls n k) where
  pub filled_for : {m : ℕ} → m ≤ n → Filled b falls n m
  filled_for l = record { first = h.first; known = l; row = h.row }

  pub filled_more : {m x r : ℕ} → m ≡ n + 1 → m < length falls → Follows b n x → Advances b (get_or falls n 0) x r
      → Filled b (set falls m r) m m
  filled_more e o q f =
      record { first = omega arith; known = omega arith; row = falls_more h.row h.first e o q f }
