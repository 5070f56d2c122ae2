-- How far a number of 32 bits with a sign is from zero, by casts: one at or above zero is cast; one below is widened to 64 bits,
-- where it has an opposite, and that is cast.
use mathlib.Core.Path.{◌≡◌, sym, ap, subst⁻¹, ◌∙◌}
use mathlib.Core.Bool.{true, false, true≢false}
use Prim.Native.Nat.{◌<◌}
use native.Mathlib.Omega.{arith}
use lib.Dec.{T}
use lib.IntN.{ℤ, pos, negsuc, nat_abs, ◌-ℤ◌}
use lib.Signed.{non_neg, le_z}
use mir.Syntax.{w32, w64}
use mir.Val.{Fits, SFits, to_z, of_z}
use mir.ValLaws.{to_z-of_z}
use borrow.Author.Tests.{le-leb}

-- what a cast to 32 bits without sign asks
abbrev Castable : ℤ → Type 0
Castable z = T (non_neg z) × Fits w32 (nat_abs z)

small : (z : ℤ) → SFits w32 z → nat_abs z < 4294967296
small (pos n) f = omega (arith, f.sfits)
small (negsuc n) f = omega (arith, f.sfits)

at_or_above : (z : ℤ) → SFits w32 z → le_z (pos 0) z ≡ true → Castable z
at_or_above (pos n) f t = (tt, record { fits = small (pos n) f })
at_or_above (negsuc n) f t = absurd (true≢false (sym t))

wide : (z : ℤ) → SFits w32 z → SFits w64 z
wide (pos n) f = record { sfits = omega (arith, f.sfits) }
wide (negsuc n) f = record { sfits = omega (arith, f.sfits) }

-- the opposite of one below zero
record Opposite (z : ℤ) : Type 0 where
  pub fits : SFits w64 (pos 0 -ℤ z)
  pub castable : Castable (pos 0 -ℤ z)
  pub as_far : nat_abs (pos 0 -ℤ z) ≡ nat_abs z

below : (z : ℤ) → SFits w32 z → le_z (pos 0) z ≡ false → Opposite z
below (pos n) f t = absurd (true≢false (sym (le-leb 0 n (omega arith)) ∙ t))
below (negsuc n) f t =
    let h = f.sfits in
    record {
      fits = record { sfits = omega arith };
      castable = (tt, record { fits = omega arith });
      as_far = omega arith;
    }

module _ (d : ℤ) (f : SFits w32 d) where
  abbrev d32 : ℤ
  d32 = to_z w32 (of_z w32 d)

  abbrev d64 : ℤ
  d64 = to_z w64 (of_z w64 d32)

  same32 : d32 ≡ d
  same32 = to_z-of_z w32 d f

  same64 : d64 ≡ d
  same64 = ap (λ (z : ℤ). to_z w64 (of_z w64 z)) same32 ∙ to_z-of_z w64 d (wide d f)

  pub cast_fits : le_z (pos 0) d32 ≡ true → Castable d32
  cast_fits t = at_or_above d32 (subst⁻¹ (SFits w32) same32 f) t

  pub wide_fits : SFits w64 d32
  wide_fits = subst⁻¹ (SFits w64) same32 (wide d f)

  module _ (t : le_z (pos 0) d32 ≡ false) where
    from_zero : Opposite d
    from_zero = below d f (ap (le_z (pos 0)) (sym same32) ∙ t)

    pub opposite_fits : SFits w64 (pos 0 -ℤ d64)
    opposite_fits = subst⁻¹ (λ (z : ℤ). SFits w64 (pos 0 -ℤ z)) same64 from_zero.fits

    opposite_is : to_z w64 (of_z w64 (pos 0 -ℤ d64)) ≡ pos 0 -ℤ d
    opposite_is = to_z-of_z w64 (pos 0 -ℤ d64) opposite_fits ∙ ap (λ (z : ℤ). pos 0 -ℤ z) same64

    pub opposite_castable : Castable (to_z w64 (of_z w64 (pos 0 -ℤ d64)))
    opposite_castable = subst⁻¹ Castable opposite_is from_zero.castable

    pub as_far_from_zero : nat_abs (to_z w64 (of_z w64 (pos 0 -ℤ d64))) ≡ nat_abs d
    as_far_from_zero = ap nat_abs opposite_is ∙ from_zero.as_far
