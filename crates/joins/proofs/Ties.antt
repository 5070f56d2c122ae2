-- The tie rule as one comparison: by overlap, and then by key. It has no rings, whatever the key is.
use mathlib.Core.Path.{◌≡◌}
use mathlib.Core.Logic.{◌⊎◌, inl, inr}
use mathlib.Core.List.{List, [], ◌∷◌}
use Prim.Native.Nat.{ℕ, ◌≤◌, ◌<◌}
use native.Mathlib.Omega.{arith}
use Rattle.words.specs.Decides.{Decides}
use Rattle.words.proofs.Deciding.{holds, fails, refuses, decides_or, decides_and, is_lt, is_eq, not_lt}
use Rattle.joins.specs.Faces.{Join}
use Rattle.joins.specs.Rounds.{lower, key, overlap_by, better}
use Rattle.joins.proofs.Search.{Comparison}

-- lower at the first difference
abbrev Lower : List ℕ → List ℕ → Type 0
Lower [] [] = ⊥
Lower [] (y ∷ ys) = Unit {0}
Lower (x ∷ xs) [] = ⊥
Lower (x ∷ xs) (y ∷ ys) = (x < y) ⊎ ((x ≡ y) × Lower xs ys)

is_lower : (xs ys : List ℕ) → Decides (Lower xs ys) (lower xs ys)
is_lower [] [] = Decides.no (λ h. h)
is_lower [] (y ∷ ys) = Decides.yes tt
is_lower (x ∷ xs) [] = Decides.no (λ h. h)
is_lower (x ∷ xs) (y ∷ ys) = decides_or (is_lt x y) (decides_and (is_eq x y) (is_lower xs ys))

lower_one_way : (xs ys : List ℕ) → Lower xs ys → Lower ys xs → ⊥
lower_one_way [] [] h k = elim h [ ]
lower_one_way (x ∷ xs) [] h k = elim h [ ]
lower_one_way [] (y ∷ ys) h k = k
lower_one_way (x ∷ xs) (y ∷ ys) (inl l) (inl m) = omega arith
lower_one_way (x ∷ xs) (y ∷ ys) (inl l) (inr m) = omega (arith, m.0)
lower_one_way (x ∷ xs) (y ∷ ys) (inr l) (inl m) = omega (arith, l.0)
lower_one_way (x ∷ xs) (y ∷ ys) (inr l) (inr m) = lower_one_way xs ys l.1 m.1

lower_onward : (xs ys zs : List ℕ) → Lower xs zs → (Lower xs ys → ⊥) → (Lower ys zs → ⊥) → ⊥
lower_onward [] [] [] h p q = elim h [ ]
lower_onward [] (y ∷ ys) [] h p q = elim h [ ]
lower_onward (x ∷ xs) [] [] h p q = elim h [ ]
lower_onward (x ∷ xs) (y ∷ ys) [] h p q = elim h [ ]
lower_onward [] [] (z ∷ zs) h p q = q tt
lower_onward [] (y ∷ ys) (z ∷ zs) h p q = p tt
lower_onward (x ∷ xs) [] (z ∷ zs) h p q = q tt
lower_onward (x ∷ xs) (y ∷ ys) (z ∷ zs) (inl l) p q =
    let u : y ≤ x = not_lt (λ k. p (inl k)) in
    let v : z ≤ y = not_lt (λ k. q (inl k)) in
    omega arith
lower_onward (x ∷ xs) (y ∷ ys) (z ∷ zs) (inr l) p q =
    let u : y ≤ x = not_lt (λ k. p (inl k)) in
    let v : z ≤ y = not_lt (λ k. q (inl k)) in
    let e : x ≡ y = omega (arith, l.0) in
    let f : y ≡ z = omega (arith, l.0) in
    lower_onward xs ys zs l.1 (λ k. p (inr (e, k))) (λ k. q (inr (f, k)))

module _ (w : ℕ → ℕ → ℕ) where
  -- a larger overlap, or as large a one and a lower key
  abbrev pub Beats : Join → Join → Type 0
  Beats j k = (overlap_by w k < overlap_by w j) ⊎ ((overlap_by w k ≡ overlap_by w j) × Lower (key j) (key k))

  pub is_better : (j k : Join) → Decides (Beats j k) (better w j k)
  is_better j k =
      decides_or
      (is_lt (overlap_by w k) (overlap_by w j))
      (decides_and (is_eq (overlap_by w k) (overlap_by w j)) (is_lower (key j) (key k)))

  beats_one_way : (j k : Join) → Beats k j → Beats j k → ⊥
  beats_one_way j k (inl l) (inl m) = omega arith
  beats_one_way j k (inl l) (inr m) = omega (arith, m.0)
  beats_one_way j k (inr l) (inl m) = omega (arith, l.0)
  beats_one_way j k (inr l) (inr m) = lower_one_way (key k) (key j) l.1 m.1

  beats_onward : (i j k : Join) → Beats i k → (Beats i j → ⊥) → (Beats j k → ⊥) → ⊥
  beats_onward i j k h p q = go h
    where
      u : overlap_by w i ≤ overlap_by w j
      u = not_lt (λ l. p (inl l))

      v : overlap_by w j ≤ overlap_by w k
      v = not_lt (λ l. q (inl l))

      go : Beats i k → ⊥
      go (inl l) = omega (arith, u, v)
      go (inr l) =
          let e : overlap_by w j ≡ overlap_by w i = omega (arith, u, v, l.0) in
          let f : overlap_by w k ≡ overlap_by w j = omega (arith, u, v, l.0) in
          lower_onward (key i) (key j) (key k) l.1 (λ x. p (inr (e, x))) (λ x. q (inr (f, x)))

  pub comparison : Comparison (better w)
  comparison =
      record {
        one_way = λ j k e. refuses (is_better j k) (beats_one_way j k (holds (is_better k j) e));
        onward = λ i j k e f.
            refuses (is_better i k) (λ h. beats_onward i j k h (fails (is_better i j) e) (fails (is_better j k) f));
      }
