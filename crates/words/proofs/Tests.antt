-- The test for equal words says that they are equal.
use mathlib.Core.Path.{◌≡◌, refl, sym, ◌∙◌}
use mathlib.Core.Bool.{Bool, true, false, ◌&&◌, true≢false}
use mathlib.Core.List.{List, [], ◌∷◌}
use Prim.Native.Nat.{ℕ}
use lib.Dec.{eqb}
use borrow.Author.Tests.{eqb-true, eq-eqb}
use Rattle.words.specs.Tests.{same}

pub both : {a b : Bool} → a ≡ true → b ≡ true → (a && b) ≡ true
both p q = cc

pub and_left : (a b : Bool) → (a && b) ≡ true → a ≡ true
and_left true b e = refl
and_left false b e = e

pub and_right : (a b : Bool) → (a && b) ≡ true → b ≡ true
and_right true b e = e
and_right false b e = cc

pub same_eq : (x y : List ℕ) → same x y ≡ true → x ≡ y
same_eq [] [] e = refl
same_eq [] (y ∷ ys) e = cc
same_eq (x ∷ xs) [] e = cc
same_eq (x ∷ xs) (y ∷ ys) e =
    let h : x ≡ y = eqb-true x y (and_left (eqb x y) (same xs ys) e) in
    let t : xs ≡ ys = same_eq xs ys (and_right (eqb x y) (same xs ys) e) in
    cc

same_refl : (x : List ℕ) → same x x ≡ true
same_refl [] = refl
same_refl (x ∷ xs) = both (eq-eqb x x refl) (same_refl xs)

pub eq_same : (x y : List ℕ) → x ≡ y → same x y ≡ true
eq_same x y e = rw e (same_refl y)

pub differ : {x y : List ℕ} → same x y ≡ false → x ≡ y → ⊥
differ {x} {y} n e = true≢false (sym (eq_same x y e) ∙ n)
