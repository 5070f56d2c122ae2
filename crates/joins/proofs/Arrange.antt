-- Arrangements of pieces: each piece once, as it is or flipped, in any order.
-- They are told by sums: what is added up over the pieces, and is the same of a piece and of its flip, does not
-- depend on the arrangement. To find a piece in an arrangement, add up how often it stands there.
use mathlib.Core.Path.{◌≡◌, refl, sym, ap, subst, ◌∙◌}
use mathlib.Core.Logic.{◌⊎◌, inl, inr}
use mathlib.Core.List.{List, [], ◌∷◌, ◌++◌, List-discrete}
use Prim.Native.Nat.{ℕ, ◌+◌, ◌≤◌}
use native.Mathlib.Omega.{arith}
use native.Mathlib.Decide.{ℕ_discrete}
use lib.ListN.{length}
use Rattle.words.specs.Lists.{Each}
use Rattle.words.proofs.Lists.{in_right, each_in}
use Rattle.joins.proofs.Sums.{sum, sum-append, sum-length}
use Rattle.joins.proofs.Pieces.{flip, flip_flip}

-- A is an arrangement of the pieces Q
pub record Arr (Q A : List (List ℕ)) : Type 0 where
  pub sums : (v : List ℕ → ℕ) → ((p : List ℕ) → v (flip p) ≡ v p) → sum v Q ≡ sum v A

pub arr_same : (Q : List (List ℕ)) → Arr Q Q
arr_same Q = record { sums = λ v e. refl }

pub arr_back : {Q A : List (List ℕ)} → Arr Q A → Arr A Q
arr_back r = record { sums = λ v e. sym (r.sums v e) }

pub arr_then : {Q A B : List (List ℕ)} → Arr Q A → Arr A B → Arr Q B
arr_then r s = record { sums = λ v e. r.sums v e ∙ s.sums v e }

pub arr_length : {Q A : List (List ℕ)} → Arr Q A → length Q ≡ length A
arr_length {Q} {A} r = sym (sum-length Q) ∙ r.sums (λ p. 1) (λ p. refl) ∙ sum-length A

-- a piece as it is or flipped
abbrev pub Way : List ℕ → List ℕ → Type 0
Way p' p = (p' ≡ p) ⊎ (p' ≡ flip p)

-- one more piece, put anywhere
pub arr_put : {p p' : List ℕ} {Q : List (List ℕ)} (X Y : List (List ℕ)) → Way p' p → Arr Q (X ++ Y)
    → Arr (p ∷ Q) (X ++ (p' ∷ Y))
arr_put {p} {p'} X Y o r =
    record { sums = λ v e. omega (arith, r.sums v e, sum-append v X Y, sum-append v X (p' ∷ Y), one v e o) }
  where
    one : (v : List ℕ → ℕ) → ((q : List ℕ) → v (flip q) ≡ v q) → Way p' p → v p' ≡ v p
    one v e (inl c) = ap v c
    one v e (inr c) = ap v c ∙ e p

pub arr_after : (p : List ℕ) {Q A : List (List ℕ)} → Arr Q A → Arr (p ∷ Q) (p ∷ A)
arr_after p {Q} {A} r = arr_put [] A (inl refl) r

pub arr_flip : (p : List ℕ) → Arr (p ∷ []) (flip p ∷ [])
arr_flip p = record { sums = λ v e. omega (arith, e p) }

-- where a piece stands, as it is or flipped
pub data Found (p : List ℕ) : List (List ℕ) → Type 0 where
  asis : (X Y : List (List ℕ)) → Found p (X ++ (p ∷ Y))
  over : (X Y : List (List ℕ)) → Found p (X ++ (flip p ∷ Y))

found_later : {p : List ℕ} (a : List ℕ) {A : List (List ℕ)} → Found p A → Found p (a ∷ A)
found_later a (asis X Y) = asis (a ∷ X) Y
found_later a (over X Y) = over (a ∷ X) Y

tally : {p a : List ℕ} → Dec (p ≡ a) → ℕ
tally (yes e) = 1
tally (no n) = 0

equal : List ℕ → List ℕ → ℕ
equal p a = tally (List-discrete ℕ_discrete p a)

equal_self : (p : List ℕ) → 1 ≤ equal p p
unfolding equal tally
equal_self p = go (List-discrete ℕ_discrete p p)
  where
    go : (d : Dec (p ≡ p)) → 1 ≤ tally d
    go (yes e) = omega arith
    go (no n) = absurd (n refl)

equal_cases : (p a : List ℕ) → (equal p a ≡ 0) ⊎ (p ≡ a)
unfolding equal tally
equal_cases p a = go (List-discrete ℕ_discrete p a)
  where
    go : (d : Dec (p ≡ a)) → (tally d ≡ 0) ⊎ (p ≡ a)
    go (yes e) = inr e
    go (no n) = inl refl

-- how often p is a or its flip
pub alike : List ℕ → List ℕ → ℕ
alike p a = equal p a + equal p (flip a)

pub alike_flip : (p a : List ℕ) → alike p (flip a) ≡ alike p a
unfolding alike
alike_flip p a = omega (arith, ap (equal p) (flip_flip a))

pub alike_self : (p : List ℕ) → 1 ≤ alike p p
unfolding alike
alike_self p = omega (arith, equal_self p)

pub find : (p : List ℕ) (A : List (List ℕ)) → 1 ≤ sum (alike p) A → Found p A
unfolding alike
find p [] h = absurd (omega arith)
find p (a ∷ A) h = go (find p A) (equal_cases p a) (equal_cases p (flip a))
  where
    go : (1 ≤ sum (alike p) A → Found p A) → (equal p a ≡ 0) ⊎ (p ≡ a) → (equal p (flip a) ≡ 0) ⊎ (p ≡ flip a)
        → Found p (a ∷ A)
    go ih (inl u) (inl v) = found_later a (ih (omega arith))
    go ih (inl u) (inr v) = subst (λ (y : List ℕ). Found p (y ∷ A)) (ap flip v ∙ flip_flip a) (over [] A)
    go ih (inr u) v = subst (λ (y : List ℕ). Found p (y ∷ A)) u (asis [] A)

-- what holds of each piece and of its flip holds of each in an arrangement
module _ (C : List ℕ → Type 0) (flipped : (p : List ℕ) → C p → C (flip p)) where
  found_each : {p : List ℕ} {A : List (List ℕ)} → Found p A → Each C A → C p
  found_each {p} (asis X Y) h = each_in C (X ++ (p ∷ Y)) p h (in_right p X (p ∷ Y) (inl refl))
  found_each {p} (over X Y) h =
      let there = in_right (flip p) X (flip p ∷ Y) (inl refl) in
      subst C (flip_flip p) (flipped (flip p) (each_in C (X ++ (flip p ∷ Y)) (flip p) h there))

  each_found : (A : List (List ℕ)) → ((p : List ℕ) → 1 ≤ sum (alike p) A → C p) → Each C A
  each_found [] h = tt
  each_found (a ∷ A) h = (h a (omega (arith, alike_self a)), each_found A (λ p l. h p (omega arith)))

  pub arr_each : {Q A : List (List ℕ)} → Arr Q A → Each C Q → Each C A
  arr_each {Q} {A} r h =
      each_found A (λ p l. found_each (find p Q (omega (arith, r.sums (alike p) (alike_flip p)))) h)
