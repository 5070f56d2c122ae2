-- A chain of tests finds the lowest number whose condition holds.
-- Each test decides its condition, so passing it by means that its number is not the one.
use mathlib.Core.Logic.{◌≢◌}
use mathlib.Core.Bool.{Bool}
use Prim.Native.Nat.{ℕ, suc, ◌≤◌, ◌<◌}
use native.Mathlib.Omega.{arith}
use Rattle.words.specs.Decides.{Decides, yes, no}
use Rattle.lists.specs.Refusals.{when, first_of}

-- e is the lowest number from n on that F has, or 0 if there is none
pub record Least (F : ℕ → Type 0) (n e : ℕ) : Type 0 where
  pub hit : 0 < e → F e
  pub low : (k : ℕ) → n ≤ k → F k → (0 < e) × (e ≤ k)

module _ {F : ℕ → Type 0} where
  no_more : {n : ℕ} → ((k : ℕ) → F k → k ≤ n) → Least F (suc n) 0
  no_more m = record { hit = λ h. absurd (omega arith); low = λ k h f. absurd (omega (arith, m k f)) }

  pub test : {n e : ℕ} {t : Bool} → Decides (F (suc n)) t → Least F (suc (suc n)) e
      → Least F (suc n) (first_of (when t (suc n)) e)
  test (yes f) l = record { hit = λ h. f; low = λ k h g. (omega arith, h) }
  test {n} (no f) l = record { hit = l.hit; low = λ k h g. l.low k (above k h g) g }
    where
      above : (k : ℕ) → suc n ≤ k → F k → suc (suc n) ≤ k
      above k h g = let ne : k ≢ suc n = λ e. f (rw e at g) in omega arith

  pub last_test : {n : ℕ} {t : Bool} → ((k : ℕ) → F k → k ≤ suc n) → Decides (F (suc n)) t
      → Least F (suc n) (when t (suc n))
  last_test m (yes f) = test (yes f) (no_more m)
  last_test m (no f) = test (no f) (no_more m)

  pub from_0 : {n e : ℕ} → ((k : ℕ) → F k → n ≤ k) → Least F n e → Least F 0 e
  from_0 m l = record { hit = l.hit; low = λ k h f. l.low k (m k f) f }
