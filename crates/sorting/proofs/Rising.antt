-- Places with rising sides: a search halves those that are left, and a face that is put in where it belongs leaves the
-- faces sorted.
use mathlib.Core.Path.{◌≡◌, sym, ap, ◌∙◌}
use mathlib.Core.Logic.{◌⊎◌, inl, inr}
use mathlib.Core.List.{List, ◌∷◌}
use Prim.Native.Nat.{ℕ, zero, suc, ◌+◌, ◌-◌, ◌≤◌, ◌<◌}
use native.Mathlib.Omega.{arith}
use native.Mathlib.Decide.{ℕ_discrete, dec_le}
use lib.ListN.{length, take, get_or}
use lib.Seq.{length-take-le}
use Rattle.std.proofs.Common.{true, false, Ordering, is_lt, nat_cmp, get_or-take}
use Rattle.std.specs.Ordering.{ordering_index}
use Rattle.std.proofs.lemmas.Bool.Decides.{nat_tests}
use Rattle.words.specs.Turn.{turned}
use Rattle.greedy.specs.Reading.{face_of}
use Rattle.sorting.specs.Sorted.{side_of, NotBefore, Rising, SortedBelow, side_at, Narrowed, Inserted}
use Rattle.sorting.proofs.Sides.{side_rises, side_total}

-- bisection
pub narrow_none : {s : ℕ → ℕ} {k m : ℕ} → Narrowed s k m 0 m
narrow_none =
    record { ordered = omega arith; bound = omega arith; below = λ i l. absurd (omega arith); above = λ i l h. absurd (omega arith) }

-- sides compared
pub side_less : (a b : Ordering) → is_lt (nat_cmp (ordering_index a) (ordering_index b)) ≡ true → ordering_index a < ordering_index b
side_less a b e = grind (arith, nat_tests)

pub side_not_less : (a b : Ordering) → is_lt (nat_cmp (ordering_index a) (ordering_index b)) ≡ false → ordering_index b ≤ ordering_index a
side_not_less a b e = grind (arith, nat_tests)

-- what is behind the first of the sorted faces is sorted
pub others_rise : {ks : List (List ℕ)} {f : ℕ} {faces : List ℕ} → Rising ks (f ∷ faces) → Rising ks faces
others_rise t =
    record {
      within = λ i l. t.within (suc i) (omega arith);
      rising = λ i j l g. t.rising (suc i) (suc j) (omega arith) (omega arith);
    }

-- what is found in a part of the sorted faces is found in the whole
pub narrowed_front : (ks : List (List ℕ)) (sorted x : List ℕ) {k m p : ℕ} → m ≤ length sorted
    → Narrowed (side_at ks (take m sorted) x) k (length (take m sorted)) p p → Narrowed (side_at ks sorted x) k m p p
narrowed_front ks sorted x {m = m} h w =
    let e = length-take-le m sorted h in
    record {
      ordered = w.ordered;
      bound = omega (arith, w.bound);
      below = λ i l. rw (get_or-take m sorted i 0 (omega (arith, w.bound))) at (w.below i l);
      above = λ i l g. rw (get_or-take m sorted i 0 g) at (w.above i l (omega arith));
    }

pub narrowed_behind : (ks : List (List ℕ)) (f : ℕ) (faces x : List ℕ) {k r : ℕ} → side_of (face_of turned ks f) x < k
    → Narrowed (side_at ks faces x) k (length faces) r r → Narrowed (side_at ks (f ∷ faces) x) k (length (f ∷ faces)) (1 + r) (1 + r)
narrowed_behind ks f faces x {k} {r} h w =
    record { ordered = omega arith; bound = omega (arith, w.bound); below = below; above = above }
  where
    below : (i : ℕ) → i < 1 + r → side_at ks (f ∷ faces) x i < k
    below zero l = h
    below (suc i) l = w.below i (omega arith)

    above : (i : ℕ) → 1 + r ≤ i → i < length (f ∷ faces) → k ≤ side_at ks (f ∷ faces) x i
    above zero l g = absurd (omega arith)
    above (suc i) l g = w.above i (omega arith) (omega arith)

module _ {ks : List (List ℕ)} {faces : List ℕ} (q : Rising ks faces) (x : List ℕ) where
  -- the sides of sorted faces rise
  rise : (i j : ℕ) → i ≤ j → j < length faces → side_at ks faces x i ≤ side_at ks faces x j
  rise i j l h = go (ℕ_discrete i j)
    where
      go : Dec (i ≡ j) → side_at ks faces x i ≤ side_at ks faces x j
      go (yes e) = rw e (omega arith)
      go (no d) = side_rises _ _ x (q.rising i j (omega arith) h)

  -- one place compared, whose side is r
  module _ {k low high mid r : ℕ} (w : Narrowed (side_at ks faces x) k (length faces) low high)
      (e : r ≡ side_at ks faces x mid) (l : low ≤ mid) (h : mid < high) where
    pub narrow_up : r < k → Narrowed (side_at ks faces x) k (length faces) (mid + 1) high
    narrow_up b =
        record {
          ordered = omega arith;
          bound = w.bound;
          below = λ i g. omega (arith, rise i mid (omega arith) (omega (arith, w.bound)));
          above = w.above;
        }

    pub narrow_down : k ≤ r → Narrowed (side_at ks faces x) k (length faces) low mid
    narrow_down b =
        record {
          ordered = l;
          bound = omega (arith, w.bound);
          below = w.below;
          above = λ i g f. omega (arith, rise mid i g f);
        }

-- Face f is put in at p, where the faces before are before it and those from there on are not.
module _ {ks : List (List ℕ)} {old new : List ℕ} {f p : ℕ} (t : SortedBelow ks f old)
    (w : Narrowed (side_at ks old (face_of turned ks f)) 1 f p p)
    (q : Inserted old p f f new) where
  -- the faces before it are before f, and those from there on are not
  lower : (i : ℕ) → i < p → NotBefore (face_of turned ks f) (face_of turned ks (get_or old i 0))
  lower i l = side_total (face_of turned ks (get_or old i 0)) (face_of turned ks f) (w.below i l)

  upper : (i : ℕ) → p ≤ i → i < f → NotBefore (face_of turned ks (get_or old i 0)) (face_of turned ks f)
  upper i l h = w.above i l h

  -- from where the face at a place came
  abbrev Came : ℕ → Type 0
  Came i = ((i < p) × (get_or new i 0 ≡ get_or old i 0)) ⊎ (((i ≡ p) × (get_or new i 0 ≡ f))
      ⊎ ((k : ℕ) × (p ≤ k) × (k < f) × (i ≡ k + 1) × (get_or new i 0 ≡ get_or old k 0)))

  came : (i : ℕ) → i < f + 1 → Came i
  came i h = go (dec_le p i) (ℕ_discrete i p)
    where
      go : Dec (p ≤ i) → Dec (i ≡ p) → Came i
      go (no d) e = inl (omega arith, q.before i (omega arith))
      go (yes l) (yes e) = inr (inl (e, ap (λ (j : ℕ). get_or new j 0) e ∙ q.at))
      go (yes l) (no d) =
          let e : i ≡ i - 1 + 1 = omega arith in
          inr (inr (i - 1, omega arith, omega arith, e, ap (λ (j : ℕ). get_or new j 0) e ∙ q.later (i - 1) (omega arith) (omega arith)))

  within : (i : ℕ) → i < f + 1 → get_or new i 0 < f + 1
  within i h = go (came i h)
    where
      go : Came i → get_or new i 0 < f + 1
      go (inl (l, e)) = omega (arith, t.within i (omega (arith, w.bound)))
      go (inr (inl (l, e))) = omega arith
      go (inr (inr (k, l, g, d, e))) = omega (arith, t.within k g)

  each : (g : ℕ) → g < f + 1 → (i : ℕ) × (i < f + 1) × (get_or new i 0 ≡ g)
  each g h = go (ℕ_discrete g f)
    where
      moved : (i : ℕ) → i < f → get_or old i 0 ≡ g → Dec (p ≤ i) → (j : ℕ) × (j < f + 1) × (get_or new j 0 ≡ g)
      moved i l e (yes b) = (i + 1, omega arith, q.later i b l ∙ e)
      moved i l e (no b) = (i, omega arith, q.before i (omega arith) ∙ e)

      go : Dec (g ≡ f) → (i : ℕ) × (i < f + 1) × (get_or new i 0 ≡ g)
      go (yes e) = (p, omega (arith, w.bound), q.at ∙ sym e)
      go (no d) = let x = t.each g (omega arith) in moved x.0 x.1 x.2 (dec_le p x.0)

  rising : (i j : ℕ) → i < j → j < f + 1 → NotBefore (face_of turned ks (get_or new j 0)) (face_of turned ks (get_or new i 0))
  rising i j l h = go (came i (omega arith)) (came j h)
    where
      go : Came i → Came j → NotBefore (face_of turned ks (get_or new j 0)) (face_of turned ks (get_or new i 0))
      go (inl (a, e)) (inl (b, d)) = rw (e, d) (t.rising i j l (omega (arith, w.bound)))
      go (inl (a, e)) (inr (inl (b, d))) = rw (e, d) (lower i a)
      go (inl (a, e)) (inr (inr (k, b, g, c, d))) = rw (e, d) (t.rising i k (omega arith) g)
      go (inr (inl (a, e))) (inl (b, d)) = absurd (omega arith)
      go (inr (inl (a, e))) (inr (inl (b, d))) = absurd (omega arith)
      go (inr (inl (a, e))) (inr (inr (k, b, g, c, d))) = rw (e, d) (upper k b g)
      go (inr (inr (x, a, y, z, e))) (inl (b, d)) = absurd (omega arith)
      go (inr (inr (x, a, y, z, e))) (inr (inl (b, d))) = absurd (omega arith)
      go (inr (inr (x, a, y, z, e))) (inr (inr (k, b, g, c, d))) = rw (e, d) (t.rising x k (omega arith) g)

  pub sorted_next : f < length old → SortedBelow ks (f + 1) new
  sorted_next l = record { room = omega (arith, q.as_long); within = within; each = each; rising = rising }
