-- Faces have numbers: 2k and 2k + 1 are the two faces of the code k, and each is the mirror of the other.
use mathlib.Core.Path.{◌≡◌, ap}
use mathlib.Core.Bool.{Bool}
use mathlib.Core.Logic.{◌⊎◌, inl, inr, ◌≢◌}
use Prim.Native.Nat.{ℕ, suc, ◌-◌, ◌/◌, ◌%◌}
use native.Mathlib.Omega.{arith}
use native.Mathlib.Decide.{ℕ_discrete}
use borrow.Author.Tests.{eq-eqb, ne_eqb}
use Rattle.words.specs.Tests.{pick}
use Rattle.joins.specs.Faces.{mirror}

abbrev pub Sides : ℕ → Type 0
Sides f = ((f % 2 ≡ 0) × (mirror f ≡ suc f)) ⊎ ((f % 2 ≡ 1) × (suc (mirror f) ≡ f))

pub sides : (f : ℕ) → Sides f
sides f = go (ℕ_discrete (f % 2) 0)
  where
    go : Dec (f % 2 ≡ 0) → Sides f
    go (yes e) = inl (e, ap (λ (t : Bool). pick t (suc f) (f - 1)) (eq-eqb (f % 2) 0 e))
    go (no n) =
        let m : mirror f ≡ f - 1 = ap (λ (t : Bool). pick t (suc f) (f - 1)) (ne_eqb (f % 2) 0 n) in
        inr (omega arith, omega arith)

pub mirror-mirror : (f : ℕ) → mirror (mirror f) ≡ f
mirror-mirror f = go (sides f) (sides (mirror f))
  where
    go : Sides f → Sides (mirror f) → mirror (mirror f) ≡ f
    go (inl x) (inl y) = omega arith
    go (inl x) (inr y) = omega arith
    go (inr x) (inl y) = omega arith
    go (inr x) (inr y) = omega arith

pub mirror_half : (f : ℕ) → mirror f / 2 ≡ f / 2
mirror_half f = go (sides f)
  where
    go : Sides f → mirror f / 2 ≡ f / 2
    go (inl x) = omega arith
    go (inr x) = omega arith

pub mirror_ne : (f : ℕ) → f ≢ mirror f
mirror_ne f e = go (sides f)
  where
    go : Sides f → ⊥
    go (inl x) = omega arith
    go (inr x) = omega arith

pub same_half : (f g : ℕ) → f / 2 ≡ g / 2 → (f ≡ g) ⊎ (mirror f ≡ g)
same_half f g h = go (sides f) (ℕ_discrete f g)
  where
    go : Sides f → Dec (f ≡ g) → (f ≡ g) ⊎ (mirror f ≡ g)
    go x (yes e) = inl e
    go (inl x) (no n) = inr (omega arith)
    go (inr x) (no n) = inr (omega arith)
