-- Decimal numbers digit by digit: a single digit is written by one store, the last of several by one store behind those of
-- the tenth; and a digit cut out of the row of all ten.
use mathlib.Core.Path.{◌≡◌, ap, ◌∙◌}
use mathlib.Core.List.{List, [], ◌∷◌}
use Prim.Native.Nat.{ℕ, zero, suc, ◌+◌, ◌-◌, ◌/◌, ◌≤◌, ◌<◌}
use native.Mathlib.Omega.{arith}
use lib.ListN.{length, take, drop, set, length-append}
use Rattle.words.specs.Written.{Written}
use Rattle.words.proofs.Written.{written_as, one_written, both_written}
use Rattle.sheets.specs.Decimal.{digit, decimal}
use Rattle.sheets.proofs.Decimal.{decimal_one, decimal_more}

pub one_digit_longer : {v : ℕ} → 10 ≤ v → length (decimal v) ≡ length (decimal (v / 10)) + 1
one_digit_longer {v} h = ap length (decimal_more h) ∙ length-append (decimal (v / 10)) (digit v ∷ [])

pub digit_written : {row : List ℕ} {at v : ℕ} → v < 10 → at < length row → Written row at (decimal v) (set row at (48 + v)) (at + 1)
digit_written {v} l h = written_as (decimal_one l) (one_written (48 + v) h)

pub last_written : {row : List ℕ} {at v : ℕ} {mid : List ℕ} {k : ℕ} → 10 ≤ v → at ≤ length row → Written row at (decimal (v / 10)) mid k
    → k < length mid → Written row at (decimal v) (set mid k (digit v)) (k + 1)
last_written {v} h l w i = written_as (decimal_more h) (both_written l w (one_written (digit v) i))

-- Numbers one after the other, from k on, and one of them cut out.
abbrev rising : ℕ → ℕ → List ℕ
rising k zero = []
rising k (suc n) = k ∷ rising (k + 1) n

one_of : (k n d : ℕ) → d < n → take 1 (drop d (rising k n)) ≡ (k + d) ∷ []
one_of k zero d l = absurd (omega arith)
one_of k (suc n) zero l = ap (λ j. j ∷ []) (omega arith)
one_of k (suc n) (suc d) l = one_of (k + 1) n d (omega arith) ∙ ap (λ j. j ∷ []) (omega arith)

pub digit_cut : (d : ℕ) → d < 10 → take (d + 1 - d) (drop d (rising 48 10)) ≡ (48 + d) ∷ []
digit_cut d l = let one : d + 1 - d ≡ 1 = omega arith in rw one (one_of 48 10 d l)
