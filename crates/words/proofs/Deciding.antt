-- Tests that decide statements: joined by "and", "or" and "not" they decide statements joined so, and what a test says
-- is what holds.
use mathlib.Core.Path.{◌≡◌, refl, sym}
use mathlib.Core.Logic.{◌⊎◌, inl, inr}
use mathlib.Core.Bool.{Bool, true, false, ◌&&◌, not, true≢false, ◌||◌}
use mathlib.Core.List.{List}
use Prim.Native.Nat.{ℕ, ◌≤◌, ◌<◌}
use lib.Dec.{eqb, leb, ltb}
use borrow.Author.Tests.{eqb-true, eq-eqb, leb-true, le-leb, ltb-true, ltb-false, lt-ltb}
use Rattle.words.specs.Tests.{same}
use Rattle.words.specs.Decides.{Decides, yes, no}
use Rattle.words.proofs.Tests.{same_eq, eq_same}

module _ {P : Type 0} where
  pub decide : (t : Bool) → (t ≡ true → P) → (P → t ≡ true) → Decides P t
  decide true f g = yes (f refl)
  decide false f g = no (λ p. true≢false (sym (g p)))

  pub decides_not : {t : Bool} → Decides P t → Decides (P → ⊥) (not t)
  decides_not (yes p) = no (λ q. q p)
  decides_not (no q) = yes q

  pub holds : {t : Bool} → Decides P t → t ≡ true → P
  holds (yes p) e = p
  holds (no q) e = absurd (true≢false (sym e))

  pub fails : {t : Bool} → Decides P t → t ≡ false → P → ⊥
  fails (yes p) e = absurd (true≢false e)
  fails (no q) e = q

  pub passes : {t : Bool} → Decides P t → P → t ≡ true
  passes (yes p) q = refl
  passes (no n) p = absurd (n p)

  pub refuses : {t : Bool} → Decides P t → (P → ⊥) → t ≡ false
  refuses (yes p) q = absurd (q p)
  refuses (no n) q = refl

  pub stable : {t : Bool} → Decides P t → ((P → ⊥) → ⊥) → P
  stable (yes p) h = p
  stable (no q) h = absurd (h q)

  -- a choice by a test has what both its cases have
  pub by_cases : {A : Type 0} (Q : A → Type 0) {t : Bool} {a b : A} → Decides P t → (P → Q a) → ((P → ⊥) → Q b)
      → Q (elim t [ true ↦ a | false ↦ b ])
  by_cases Q (yes p) f g = f p
  by_cases Q (no n) f g = g n

  -- two tests of one statement are the same
  pub decides_one : {s t : Bool} → Decides P s → Decides P t → s ≡ t
  decides_one (yes p) d = sym (passes d p)
  decides_one (no n) d = sym (refuses d n)

module _ {P Q : Type 0} where
  pub decides_via : {t : Bool} → (P → Q) → (Q → P) → Decides P t → Decides Q t
  decides_via f g (yes p) = yes (f p)
  decides_via f g (no n) = no (λ q. n (g q))

  pub decides_and : {s t : Bool} → Decides P s → Decides Q t → Decides (P × Q) (s && t)
  decides_and (no n) d = no (λ b. n b.0)
  decides_and (yes p) (yes q) = yes (p, q)
  decides_and (yes p) (no n) = no (λ b. n b.1)

  pub decides_or : {s t : Bool} → Decides P s → Decides Q t → Decides (P ⊎ Q) (s || t)
  decides_or (yes p) d = yes (inl p)
  decides_or (no n) (yes q) = yes (inr q)
  decides_or (no n) (no m) = no (elim [ inl p ↦ n p | inr q ↦ m q ])

-- numbers and words
pub is_le : (a b : ℕ) → Decides (a ≤ b) (leb a b)
is_le a b = decide (leb a b) (leb-true a b) (le-leb a b)

pub is_lt : (a b : ℕ) → Decides (a < b) (ltb a b)
is_lt a b = decide (ltb a b) (ltb-true a b) (lt-ltb a b)

pub is_eq : (a b : ℕ) → Decides (a ≡ b) (eqb a b)
is_eq a b = decide (eqb a b) (eqb-true a b) (eq-eqb a b)

pub is_same : (x y : List ℕ) → Decides (x ≡ y) (same x y)
is_same x y = decide (same x y) (same_eq x y) (eq_same x y)

pub not_lt : {a b : ℕ} → (a < b → ⊥) → b ≤ a
not_lt {a} {b} h = ltb-false a b (refuses (is_lt a b) h)
