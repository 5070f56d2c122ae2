-- What is in a list, and what holds of each of a list, by its parts. Numbers in rising order are told by which they are.
use mathlib.Core.Path.{◌≡◌, refl, sym, ap}
use mathlib.Core.Logic.{◌⊎◌, inl, inr}
use mathlib.Core.List.{List, [], ◌∷◌, ◌++◌, map}
use Prim.Native.Nat.{ℕ, zero, suc, ◌+◌, ◌≤◌, ◌<◌}
use native.Mathlib.Omega.{arith}
use lib.ListN.{length, take, drop, get_or}
use Rattle.words.specs.Lists.{In, Each, Rising}

module _ {A : Type 0} where
  pub in_left : (x : A) (xs ys : List A) → In x xs → In x (xs ++ ys)
  in_left x [] ys x'' = elim x'' [ ]
  in_left x (y ∷ xs) ys (inl e) = inl e
  in_left x (y ∷ xs) ys (inr i) = inr (in_left x xs ys i)

  pub in_right : (x : A) (xs ys : List A) → In x ys → In x (xs ++ ys)
  in_right x [] ys i = i
  in_right x (y ∷ xs) ys i = inr (in_right x xs ys i)

  pub in_either : (x : A) (xs ys : List A) → In x (xs ++ ys) → In x xs ⊎ In x ys
  in_either x [] ys i = inr i
  in_either x (y ∷ xs) ys (inl e) = inl (inl e)
  in_either x (y ∷ xs) ys (inr i) = go (in_either x xs ys i)
    where
      go : In x xs ⊎ In x ys → In x (y ∷ xs) ⊎ In x ys
      go (inl k) = inl (inr k)
      go (inr k) = inr k

module _ {A B : Type 0} (f : A → B) where
  pub in_map : (x : A) (xs : List A) → In x xs → In (f x) (map f xs)
  in_map x [] x'' = elim x'' [ ]
  in_map x (y ∷ xs) (inl e) = inl (ap f e)
  in_map x (y ∷ xs) (inr i) = inr (in_map x xs i)

  pub map_in : (z : B) (xs : List A) → In z (map f xs) → (x : A) × In x xs × (z ≡ f x)
  map_in z [] x' = elim x' [ ]
  map_in z (y ∷ xs) (inl e) = (y, inl refl, e)
  map_in z (y ∷ xs) (inr i) = let r = map_in z xs i in (r.0, inr r.1, r.2)

module _ {A : Type 0} (P : A → Type 0) where
  pub in_each : (xs : List A) → ((x : A) → In x xs → P x) → Each P xs
  in_each [] f = tt
  in_each (x ∷ xs) f = (f x (inl refl), in_each xs (λ y i. f y (inr i)))

  pub each_in : (xs : List A) (x : A) → Each P xs → In x xs → P x
  each_in [] x _ x5 = elim x5 [ ]
  each_in (y ∷ ys) x (p, h) (inl e) = rw e p
  each_in (y ∷ ys) x (p, h) (inr i) = each_in ys x h i

  -- at any index, where d stands past the end
  pub each_at : (xs : List A) (d : A) → P d → Each P xs → (i : ℕ) → P (get_or xs i d)
  each_at [] d p h i = p
  each_at (x ∷ xs) d p h zero = h.0
  each_at (x ∷ xs) d p h (suc i) = each_at xs d p h.1 i

  pub each_take : (n : ℕ) (xs : List A) → Each P xs → Each P (take n xs)
  each_take zero xs h = tt
  each_take (suc n) [] h = tt
  each_take (suc n) (x ∷ xs) (p, h) = (p, each_take n xs h)

  pub each_drop : (n : ℕ) (xs : List A) → Each P xs → Each P (drop n xs)
  each_drop zero xs h = h
  each_drop (suc n) [] h = tt
  each_drop (suc n) (x ∷ xs) (p, h) = each_drop n xs h

  pub each_append : (xs ys : List A) → Each P xs → Each P ys → Each P (xs ++ ys)
  each_append [] ys h g = g
  each_append (x ∷ xs) ys (p, h) g = (p, each_append xs ys h g)

  -- one more, put anywhere
  pub each_put : (xs : List A) (a : A) (ys : List A) → P a → Each P (xs ++ ys) → Each P (xs ++ (a ∷ ys))
  each_put [] a ys p h = (p, h)
  each_put (x ∷ xs) a ys p h = (h.0, each_put xs a ys p h.1)

pub each_map : {A : Type 0} (P Q : A → Type 0) → ((x : A) → P x → Q x) → (xs : List A) → Each P xs → Each Q xs
each_map P Q f [] h = tt
each_map P Q f (x ∷ xs) h = (f x h.0, each_map P Q f xs h.1)

-- Two rising lists of the same numbers are the same.
pub rising_same : (p q : List ℕ) → Rising p → Rising q → ((i : ℕ) → In i p → In i q) → ((i : ℕ) → In i q → In i p) → p ≡ q
rising_same [] [] r s u v = refl
rising_same [] (j ∷ q) r s u v = absurd (v j (inl refl))
rising_same (i ∷ p) [] r s u v = absurd (u i (inl refl))
rising_same (i ∷ p) (j ∷ q) r s u v =
    let e = heads (u i (inl refl)) (v j (inl refl)) in
    let there : (k : ℕ) → In k p → In k q = λ k x. later k i j q (r.0 k x) e (u k (inr x)) in
    let back : (k : ℕ) → In k q → In k p = λ k x. later k j i p (s.0 k x) (sym e) (v k (inr x)) in
    let t = rising_same p q r.1 s.1 there back in
    cc
  where
    heads : In i (j ∷ q) → In j (i ∷ p) → i ≡ j
    heads (inl e) y = e
    heads (inr x) (inl e) = sym e
    heads (inr x) (inr y) = absurd (omega (arith, r.0 j y, s.0 i x))

    later : (k m n : ℕ) (l : List ℕ) → m < k → m ≡ n → In k (n ∷ l) → In k l
    later k m n l h e (inl x) = absurd (omega arith)
    later k m n l h e (inr x) = x

-- numbers from j on and below k are at most as many as those are
pub rising_few : (p : List ℕ) (j k : ℕ) → j ≤ k → Rising p → ((i : ℕ) → In i p → (j ≤ i) × (i < k)) → length p + j ≤ k
rising_few [] j k l r h = omega arith
rising_few (i ∷ p) j k l r h =
    let b = h i (inl refl) in
    omega (arith, b.0, rising_few p (suc i) k (omega (arith, b.1)) r.1 (λ m x. (r.0 m x, (h m (inr x)).1)))

-- a greater number behind them
pub rising_more : (p : List ℕ) (k : ℕ) → Rising p → ((i : ℕ) → In i p → i < k) → Rising (p ++ (k ∷ []))
rising_more [] k r h = ((λ j x. absurd x), tt)
rising_more (i ∷ p) k r h = ((λ j x. go j (in_either j p (k ∷ []) x)), rising_more p k r.1 (λ j x. h j (inr x)))
  where
    go : (j : ℕ) → In j p ⊎ In j (k ∷ []) → i < j
    go j (inr (inr x4)) = elim x4 [ ]
    go j (inl x) = r.0 j x
    go j (inr (inl e)) = omega (arith, h i (inl refl))
