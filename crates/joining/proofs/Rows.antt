-- The joins as a row of numbers: what it has at a face, and after a face is stored.
use Rattle.std.proofs.Common.{◌≡◌, ◌≢◌, refl, ℕ, true, false, List, Option, Some, None, is_some, get_or, set, sym, ◌∙◌, ap, arith}
use Rattle.std.proofs.Math.ListN.{get_or-map}
use Rattle.std.proofs.lemmas.List.{map-set}
use Rattle.joining.specs.Joins.{number_of, row_of}

pub row_at : (after : List (Option ℕ)) (f : ℕ) {o : Option ℕ} → get_or after f None ≡ o → get_or (row_of after) f 0 ≡ number_of o
row_at after f e = get_or-map number_of after f None ∙ ap number_of e

pub row_set : (after : List (Option ℕ)) (f : ℕ) (o : Option ℕ) → row_of (set after f o) ≡ set (row_of after) f (number_of o)
row_set after f o = map-set number_of after f o

-- a face with none after it, and one with some
pub row_open : (after : List (Option ℕ)) (f : ℕ) → false ≡ is_some (get_or after f None) → get_or (row_of after) f 0 ≡ 0
row_open after f e = row_at after f refl ∙ go (get_or after f None) e
  where
    go : (o : Option ℕ) → false ≡ is_some o → number_of o ≡ 0
    go None e = refl
    go (Some g) e = cc

pub row_taken : (after : List (Option ℕ)) (f : ℕ) → true ≡ is_some (get_or after f None) → get_or (row_of after) f 0 ≢ 0
row_taken after f e z = go (get_or after f None) e (sym (row_at after f refl) ∙ z)
  where
    go : (o : Option ℕ) → true ≡ is_some o → number_of o ≡ 0 → ⊥
    go None e z = cc
    go (Some g) e z = omega arith
