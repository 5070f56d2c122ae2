-- Numbers as they are written: decimal, without leading zeros. The claim on a text of digits, and ours.
use Rattle.std.specs.Prelude.{true, false, List, [], ◌∷◌, ◌++◌, ℕ, zero, suc, ◌+◌, ◌*◌, ◌/◌, ◌%◌, ◌<◌, ltb}

-- The claim: a number below 10 is one digit; more digits stand before the last only for what is above 0.
pub data Digits : ℕ → List ℕ → Type 0 where
  one_digit : {d : ℕ} → d < 10 → Digits d ((48 + d) ∷ [])
  one_more : {v d : ℕ} {t : List ℕ} → 0 < v → Digits v t → d < 10 → Digits (10 * v + d) (t ++ ((48 + d) ∷ []))

-- Ours.
abbrev pub digit : ℕ → ℕ
digit v = 48 + v % 10

-- v has at most as many digits as there is fuel
abbrev pub digits_from : ℕ → ℕ → List ℕ
digits_from zero v = []
digits_from (suc fuel) v = elim (ltb v 10) [
  | true ↦ digit v ∷ []
  | false ↦ digits_from fuel (v / 10) ++ (digit v ∷ [])
]

abbrev pub decimal : ℕ → List ℕ
decimal v = digits_from (suc v) v
