-- The difference of two lengths as a signed number is the one of the definition; and so it is in 32 bits: a number below 2 ^ 31
-- is itself as a signed one, and so is 0 less that number.
use mathlib.Core.Path.{◌≡◌, sym, ap, subst, ◌∙◌}
use Prim.Native.Nat.{ℕ, zero, suc, ◌-◌, ◌<◌, ◌≤◌, ◌^◌}
use native.Mathlib.Omega.{arith}
use lib.IntN.{ℤ, pos, negsuc, ◌-ℤ◌}
use borrow.Author.Tests.{lt-ltb, le-leb, lt-leb}
use mir.Syntax.{w32}
use mir.Val.{to_z, of_z, SFits}
use mir.ValLaws.{to_z_pos, to_z-of_z}
use Rattle.std.proofs.lemmas.Int.{ints}
use Rattle.checking.specs.Answers.{less}

pub less_is : (a b : ℕ) → pos a -ℤ pos b ≡ less a b
less_is a b = grind (arith, ints)

neg_pos : (n : ℕ) → 0 < n → pos 0 -ℤ pos n ≡ negsuc (n - 1)
neg_pos zero h = absurd (omega arith)
neg_pos (suc n) h = simp (lt-ltb 0 (suc n) h)

pub neg_is : (n : ℕ) → 0 < n → n < 2 ^ 31 → pos 0 -ℤ to_z w32 n ≡ negsuc (n - 1)
neg_is n h k = ap (λ (z : ℤ). pos 0 -ℤ z) (to_z_pos w32 n k) ∙ neg_pos n h

pub neg_fits : (n : ℕ) → 0 < n → n < 2 ^ 31 → SFits w32 (pos 0 -ℤ to_z w32 n)
neg_fits n h k = subst (SFits w32) (sym (neg_is n h k)) (record { sfits = below n k })
  where
    below : (m : ℕ) → m < 2 ^ 31 → m - 1 < 2 ^ 31
    below m l = omega arith

pub above : (a b : ℕ) → b ≤ a → a < 2 ^ 31 → to_z w32 (a - b) ≡ less a b
above a b h k = simp (le-leb b a h) (to_z_pos w32 (a - b) (omega arith))

pub below_zero : (a b : ℕ) → a < b → b < 2 ^ 31 → to_z w32 (of_z w32 (pos 0 -ℤ to_z w32 (b - a))) ≡ less a b
below_zero a b h k = simp (lt-leb b a h) (to_z-of_z w32 _ (neg_fits (b - a) (omega arith) (omega arith)) ∙ neg_is (b - a) (omega arith) (omega arith))
