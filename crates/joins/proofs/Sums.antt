-- Sums over a list: of its parts, and turned.
use mathlib.Core.Path.{◌≡◌, refl}
use mathlib.Core.List.{List, [], ◌∷◌, ◌++◌}
use Prim.Native.Nat.{ℕ, ◌+◌}
use native.Mathlib.Omega.{arith}
use lib.ListN.{length}
use Rattle.words.specs.Turn.{turned_by}

module _ {P : Type 0} where
  abbrev pub sum : (P → ℕ) → List P → ℕ
  sum u [] = 0
  sum u (a ∷ A) = u a + sum u A

  pub sum-append : (u : P → ℕ) (X Y : List P) → sum u (X ++ Y) ≡ sum u X + sum u Y
  sum-append u [] Y = omega arith
  sum-append u (a ∷ X) Y = omega (arith, sum-append u X Y)

  pub sum_same : (u v : P → ℕ) → ((a : P) → u a ≡ v a) → (A : List P) → sum u A ≡ sum v A
  sum_same u v e [] = refl
  sum_same u v e (a ∷ A) = omega (arith, e a, sum_same u v e A)

  pub sum-length : (A : List P) → sum (λ a. 1) A ≡ length A
  sum-length [] = refl
  sum-length (a ∷ A) = omega (arith, sum-length A)

  pub sum-turned : (u : P → ℕ) (f : P → P) → ((a : P) → u (f a) ≡ u a) → (A : List P) → sum u (turned_by f A) ≡ sum u A
  sum-turned u f e [] = refl
  sum-turned u f e (a ∷ A) = omega (arith, sum-append u (turned_by f A) (f a ∷ []), e a, sum-turned u f e A)
