-- Decimal numbers: ours meets the claim, it leaves no freedom, what is written tells the number, and how many digits there
-- are. The fuel does not matter as long as it is more than the number, since a number of two digits or more is larger than
-- its tenth.
use mathlib.Core.Path.{◌≡◌, refl, sym, subst, ◌∙◌}
use mathlib.Core.Bool.{false}
use mathlib.Core.List.{List, [], ◌∷◌, ◌++◌}
use Prim.Native.Nat.{ℕ, zero, suc, ◌+◌, ◌*◌, ◌^◌, ◌-◌, ◌/◌, ◌%◌, ◌≤◌, ◌<◌}
use native.Mathlib.Nat.{pow-suc}
use native.Mathlib.Omega.{arith}
use lib.Dec.{ltb}
use lib.ListN.{length, length-append}
use Rattle.words.proofs.Deciding.{passes, refuses, by_cases, is_lt}
use Rattle.sheets.specs.Decimal.{Digits, one_digit, one_more, digit, digits_from, decimal}

-- Ours meets it.
single : (v : ℕ) → v < 10 → Digits v (digit v ∷ [])
single v l = let e : v % 10 ≡ v = omega arith in rw e (one_digit l)

several : (v : ℕ) {t : List ℕ} → (v < 10 → ⊥) → Digits (v / 10) t → Digits v (t ++ (digit v ∷ []))
several v {t} n h =
    let parts : 10 * (v / 10) + v % 10 ≡ v = omega arith in
    subst (λ (k : ℕ). Digits k (t ++ (digit v ∷ []))) parts (one_more (omega arith) h (omega arith))

from_ours : (fuel v : ℕ) → v < fuel → Digits v (digits_from fuel v)
from_ours zero v l = absurd (omega arith)
from_ours (suc fuel) v l =
    by_cases
    (Digits v)
    (is_lt v 10)
    (single v)
    (λ n. several v n (from_ours fuel (v / 10) (omega arith)))

pub digits_ours : (v : ℕ) → Digits v (decimal v)
digits_ours v = from_ours (suc v) v (omega arith)

-- Nothing else does.
from_only : {v : ℕ} {t : List ℕ} → Digits v t → (fuel : ℕ) → v < fuel → digits_from fuel v ≡ t
from_only d zero l = absurd (omega arith)
from_only (one_digit {d} s) (suc fuel) l = let e : d % 10 ≡ d = omega arith in cc (passes (is_lt d 10) s)
from_only (one_more {v} {d} {t} p h s) (suc fuel) l =
    let first : (10 * v + d) / 10 ≡ v = omega arith in
    let last : (10 * v + d) % 10 ≡ d = omega arith in
    let two : ltb (10 * v + d) 10 ≡ false = refuses (is_lt (10 * v + d) 10) (λ m. omega arith) in
    cc (from_only {v = v} h fuel (omega arith))

pub digits_one : {v : ℕ} {s t : List ℕ} → Digits v s → Digits v t → s ≡ t
digits_one {v} d e = sym (from_only d (suc v) (omega arith)) ∙ from_only e (suc v) (omega arith)

-- What is written tells the number: digit after digit, ten times what was read and the digit more.
abbrev read_on : ℕ → List ℕ → ℕ
read_on v [] = v
read_on v (b ∷ s) = read_on (10 * v + (b - 48)) s

read_append : (v : ℕ) (s t : List ℕ) → read_on v (s ++ t) ≡ read_on (read_on v s) t
read_append v [] t = refl
read_append v (b ∷ s) t = read_append (10 * v + (b - 48)) s t

read_digits : {v : ℕ} {t : List ℕ} → Digits v t → read_on 0 t ≡ v
read_digits (one_digit l) = omega arith
read_digits (one_more {v} {d} {t} p h l) =
    omega (arith, read_append 0 t ((48 + d) ∷ []), read_digits h)

pub digits_tell : {v w : ℕ} {t : List ℕ} → Digits v t → Digits w t → v ≡ w
digits_tell d e = sym (read_digits d) ∙ read_digits e

-- Digit by digit: one below 10, otherwise the last one behind those of the tenth.
pub decimal_one : {v : ℕ} → v < 10 → decimal v ≡ (48 + v) ∷ []
decimal_one {v} l = digits_one (digits_ours v) (one_digit l)

pub decimal_more : {v : ℕ} → 10 ≤ v → decimal v ≡ decimal (v / 10) ++ (digit v ∷ [])
decimal_more {v} h = digits_one (digits_ours v) (several v (λ l. omega arith) (digits_ours (v / 10)))

-- As many digits as there are powers of 10 passed; ten for a number of 32 bits.
digits_few : {v : ℕ} {t : List ℕ} → Digits v t → (k : ℕ) → v < 10 ^ suc k → length t ≤ suc k
digits_few (one_digit l) k h = omega arith
digits_few (one_more p d l) zero h = absurd (omega arith)
digits_few (one_more {v} {d} {t} p e l) (suc k) h =
    omega (arith, length-append t ((48 + d) ∷ []), digits_few e k (omega (arith, pow-suc 10 (suc k))))

pub decimal_few : (v : ℕ) → v < 4294967296 → length (decimal v) ≤ 10
decimal_few v h = digits_few (digits_ours v) 9 (omega arith)
