-- The order of words by their bands: later words are on later sides, whatever the word that they are compared with. Of two
-- words that share a beginning, what is left of them decides.
use mathlib.Core.Path.{◌≡◌, refl, sym, ap, ◌∙◌}
use mathlib.Core.Logic.{◌⊎◌, inl, inr}
use mathlib.Core.Bool.{Bool, true, false}
use mathlib.Core.List.{List, [], ◌∷◌, ◌++◌}
use Prim.Native.Nat.{ℕ, suc, ◌+◌, ◌-◌, ◌≤◌, ◌<◌}
use native.Mathlib.Numerals.{add-one}
use native.Mathlib.Omega.{arith}
use lib.Dec.{ltb}
use lib.ListN.{length, take, drop, get_or, length-append, length-drop, take-append-drop, drop_of_length-le}
use lib.Seq.{drop-cons, drop_at}
use borrow.Author.Tests.{ltb-true, ltb-false, lt-ltb, le-ltb}
use Rattle.std.proofs.Common.{Ordering, Less, Greater, nat_cmp, ◌≢◌}
use Rattle.std.specs.Ordering.{ordering_index}
use Rattle.std.specs.Cmp.{nat_cmp_is}
use Rattle.words.specs.Overlap.{Shares}
use Rattle.sorting.specs.Sorted.{side_of, NotBefore, ending}

compare : (y x : ℕ) → (y < x) ⊎ ((x < y) ⊎ (y ≡ x))
compare y x = go (ltb y x) refl (ltb x y) refl
  where
    go : (s : Bool) → ltb y x ≡ s → (t : Bool) → ltb x y ≡ t → (y < x) ⊎ ((x < y) ⊎ (y ≡ x))
    go true e t f = inl (ltb-true y x e)
    go false e true f = inr (inl (ltb-true x y f))
    go false e false f = inr (inr (omega (arith, ltb-false y x e, ltb-false x y f)))

-- one band compared
module _ {y x : ℕ} (f xs : List ℕ) where
  side_less : y < x → side_of (y ∷ f) (x ∷ xs) ≡ 0
  side_less l = simp (lt-ltb y x l)

  side_more : x < y → side_of (y ∷ f) (x ∷ xs) ≡ 2
  side_more l = simp (le-ltb y x (omega arith), lt-ltb x y l)

  side_same : y ≡ x → side_of (y ∷ f) (x ∷ xs) ≡ side_of f xs
  side_same e = simp (le-ltb y x (omega arith), le-ltb x y (omega arith))

side_most : (f x : List ℕ) → side_of f x ≤ 2
side_most f [] = omega arith
side_most [] (x ∷ xs) = omega arith
side_most (y ∷ f) (x ∷ xs) = go (compare y x) (side_most f xs)
  where
    go : (y < x) ⊎ ((x < y) ⊎ (y ≡ x)) → side_of f xs ≤ 2 → side_of (y ∷ f) (x ∷ xs) ≤ 2
    go (inl l) h = omega (arith, side_less f xs l)
    go (inr (inl l)) h = omega (arith, side_more f xs l)
    go (inr (inr e)) h = omega (arith, side_same f xs e)

-- a later word is on no earlier side
pub side_rises : (f g x : List ℕ) → NotBefore g f → side_of f x ≤ side_of g x
side_rises f g [] h = omega arith
side_rises [] g (x ∷ xs) h = omega arith
side_rises (y ∷ f) [] (x ∷ xs) h = absurd (omega arith)
side_rises (y ∷ f) (z ∷ g) (x ∷ xs) h = go (compare z y) (compare y x) (side_rises f g xs)
  where
    go : (z < y) ⊎ ((y < z) ⊎ (z ≡ y)) → (y < x) ⊎ ((x < y) ⊎ (y ≡ x)) → (NotBefore g f → side_of f xs ≤ side_of g xs)
        → side_of (y ∷ f) (x ∷ xs) ≤ side_of (z ∷ g) (x ∷ xs)
    go (inl l) c ih = absurd (omega (arith, side_less g f l))
    go (inr l) (inl k) ih = omega (arith, side_less f xs k)
    go (inr l) (inr (inl k)) ih =
        omega (arith, side_most (y ∷ f) (x ∷ xs), side_more {y = z} {x = x} g xs (later l))
      where
        later : (y < z) ⊎ (z ≡ y) → x < z
        later (inl j) = omega arith
        later (inr e) = omega arith
    go (inr (inl l)) (inr (inr e)) ih =
        omega (arith, side_most (y ∷ f) (x ∷ xs), side_more {y = z} {x = x} g xs (omega arith))
    go (inr (inr d)) (inr (inr e)) ih =
        omega (
          arith,
          side_same f xs e,
          side_same {y = z} {x = x} g xs (omega arith),
          ih (omega (arith, side_same g f d)),
        )

-- of two words one is not before the other
pub side_total : (f g : List ℕ) → side_of f g < 1 → NotBefore g f
side_total f [] h = absurd (omega arith)
side_total [] (x ∷ g) h = omega arith
side_total (y ∷ f) (x ∷ g) h = go (compare y x) (side_total f g)
  where
    go : (y < x) ⊎ ((x < y) ⊎ (y ≡ x)) → (side_of f g < 1 → NotBefore g f) → NotBefore (x ∷ g) (y ∷ f)
    go (inl l) ih = omega (arith, side_more g f l)
    go (inr (inl l)) ih = absurd (omega (arith, side_more f g l))
    go (inr (inr e)) ih = omega (arith, side_same {y = x} {x = y} g f (sym e), ih (omega (arith, side_same f g e)))

-- the words on side 1 are those that begin with x
side_begins : (f x : List ℕ) → side_of f x ≡ 1 → (more : List ℕ) × (f ≡ x ++ more)
side_begins f [] h = (f, refl)
side_begins [] (x ∷ xs) h = absurd (omega arith)
side_begins (y ∷ f) (x ∷ xs) h = go (compare y x) (side_begins f xs)
  where
    go : (y < x) ⊎ ((x < y) ⊎ (y ≡ x)) → (side_of f xs ≡ 1 → (more : List ℕ) × (f ≡ xs ++ more))
        → (more : List ℕ) × (y ∷ f ≡ (x ∷ xs) ++ more)
    go (inl l) ih = absurd (omega (arith, side_less f xs l))
    go (inr (inl l)) ih = absurd (omega (arith, side_more f xs l))
    go (inr (inr e)) ih =
        let m = ih (sym (side_same f xs e) ∙ h) in
        (m.0, cc (e, m.1))

begins_side : (x more : List ℕ) → side_of (x ++ more) x ≡ 1
begins_side [] more = refl
begins_side (y ∷ x) more = side_same {y = y} (x ++ more) x refl ∙ begins_side x more

-- endings
ending_size : (a : List ℕ) (o : ℕ) → o ≤ length a → length (ending o a) ≡ o
ending_size a o l = omega (arith, length-drop (length a - o) a)

-- b begins with the last o bands of a exactly where it is on side 1 of them
pub shares_side : {a b : List ℕ} {o : ℕ} → Shares a b o → (o ≤ length a) × (side_of b (ending o a) ≡ 1)
shares_side {a} {b} {o} h =
    let l : length a ≡ length h.rest + o = omega (arith, simp length-append at (ap length h.ending), h.size) in
    let n : length h.rest ≡ length a - o = omega arith in
    let p : ending o a ≡ h.shared =
    ap (drop (length a - o)) h.ending ∙ drop_at h.rest h.shared (length a - o) n in
    (omega arith, rw (p, h.beginning) (begins_side h.shared h.more))

pub side_shares : (a b : List ℕ) (o : ℕ) → o ≤ length a → side_of b (ending o a) ≡ 1 → Shares a b o
side_shares a b o l h =
    let m = side_begins b (ending o a) h in
    record {
      rest = take (length a - o) a;
      shared = ending o a;
      more = m.0;
      ending = sym (take-append-drop (length a - o) a);
      beginning = m.1;
      size = ending_size a o l;
    }

-- A word f compared with x, from the left: the first i bands are alike.
pub record Siding (f x : List ℕ) (i : ℕ) : Type 0 where
  pub passed : i ≤ length x
  pub left : side_of f x ≡ side_of (drop i f) (drop i x)

pub siding_none : {f x : List ℕ} → Siding f x 0
siding_none = record { passed = omega arith; left = refl }

module _ {f x : List ℕ} {i : ℕ} (s : Siding f x i) where
  next : i < length x → drop i x ≡ get_or x i 0 ∷ drop (suc i) x
  next l = drop-cons x i 0 l

  -- all of x is passed
  pub siding_end : length x ≤ i → side_of f x ≡ 1
  siding_end l = s.left ∙ rw (drop_of_length-le x l)

  -- f has no band i
  pub siding_short : i < length x → length f ≤ i → side_of f x ≡ 0
  siding_short l m = s.left ∙ rw (next l, drop_of_length-le f m)

  -- band i decides, or is alike
  module _ (l : i < length x) (m : i < length f) where
    here : side_of f x ≡ side_of (get_or f i 0 ∷ drop (suc i) f) (get_or x i 0 ∷ drop (suc i) x)
    here = s.left ∙ ap (λ (w : List ℕ). side_of w (drop i x)) (drop-cons f i 0 m)
        ∙ ap (λ (w : List ℕ). side_of (get_or f i 0 ∷ drop (suc i) f) w) (next l)

    pub siding_same : get_or f i 0 ≡ get_or x i 0 → Siding f x (i + 1)
    siding_same e =
        record { passed = omega arith; left = here ∙ side_same (drop (suc i) f) (drop (suc i) x) e ∙ rw add-one }

    -- of two bands that differ, the order
    pub siding_decides : {r : Ordering} → r ≡ nat_cmp (get_or f i 0) (get_or x i 0) → get_or f i 0 ≢ get_or x i 0 → ordering_index r ≡ side_of f x
    siding_decides {r} e d = go (compare (get_or f i 0) (get_or x i 0))
      where
        go : (get_or f i 0 < get_or x i 0) ⊎ ((get_or x i 0 < get_or f i 0) ⊎ (get_or f i 0 ≡ get_or x i 0)) → ordering_index r ≡ side_of f x
        go (inl l) =
            ap ordering_index (e ∙ sym (nat_cmp_is (get_or f i 0) (get_or x i 0) Less l))
            ∙ sym (here ∙ side_less (drop (suc i) f) (drop (suc i) x) l)
        go (inr (inl l)) =
            ap ordering_index (e ∙ sym (nat_cmp_is (get_or f i 0) (get_or x i 0) Greater l))
            ∙ sym (here ∙ side_more (drop (suc i) f) (drop (suc i) x) l)
        go (inr (inr q)) = absurd (d q)
