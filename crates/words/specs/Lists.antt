-- Notions on lists of anything that statements above are made of.
use Rattle.std.specs.Prelude.{◌≡◌, ◌⊎◌, List, [], ◌∷◌, ℕ, ◌<◌}

module _ {A : Type 0} where
  -- x is one of the list
  abbrev pub In : A → List A → Type 0
  In x [] = ⊥
  In x (y ∷ ys) = (x ≡ y) ⊎ In x ys

  -- P holds of each of the list
  abbrev pub Each : (A → Type 0) → List A → Type 0
  Each P [] = Unit {0}
  Each P (x ∷ xs) = P x × Each P xs

  -- no two of the list are equal
  abbrev pub Once : List A → Type 0
  Once [] = Unit {0}
  Once (x ∷ xs) = (In x xs → ⊥) × Once xs

-- numbers in rising order
abbrev pub Rising : List ℕ → Type 0
Rising [] = Unit {0}
Rising (i ∷ p) = ((j : ℕ) → In j p → i < j) × Rising p
