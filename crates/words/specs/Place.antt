-- The place of a word on a row (its first occurrence): the smallest start at which either way stands, with the way. A word
-- equal to its turned form has the way either; given and turned are left for words that differ from theirs.
use Rattle.std.specs.Prelude.{◌≡◌, Bool, true, false, List, [], ◌∷◌, ℕ, zero, suc, ◌≤◌, ◌<◌, length}
use Rattle.words.specs.Tests.{same}
use Rattle.words.specs.Stand.{StandsAt, StandsHere, begins}

-- as given, turned or either way at a start, or no place
pub data Place : Type 0 where
  given_at : ℕ → Place
  turned_at : ℕ → Place
  either_at : ℕ → Place
  nowhere : Place

-- c looks alike from both ends: it is equal to its turned form (a palindrome, where turning replaces no band)
abbrev pub LooksAlike : (List ℕ → List ℕ) → List ℕ → Type 0
LooksAlike turn c = c ≡ turn c

-- neither way stands at i
pub record Neither (turn : List ℕ → List ℕ) (c s : List ℕ) (i : ℕ) : Type 0 where
  pub not_given : StandsAt c s i → ⊥
  pub not_turned : StandsAt (turn c) s i → ⊥

-- the smallest start from k on at which either way stands; a start behind the row where there is none
pub record FirstStart (turn : List ℕ → List ℕ) (k : ℕ) (c s : List ℕ) (i : ℕ) : Type 0 where
  pub from_on : k ≤ i
  pub stands : i ≤ length s → StandsHere turn c s i
  pub none_before : (j : ℕ) → k ≤ j → j < i → Neither turn c s j

-- The claim that pins the search, for a way to turn and a first start k: the smallest place from k on, or none.
module _ (turn : List ℕ → List ℕ) (k : ℕ) (c s : List ℕ) where
  abbrev pub NoneBefore : ℕ → Type 0
  NoneBefore i = (j : ℕ) → k ≤ j → j < i → Neither turn c s j

  pub data IsPlace : Place → Type 0 where
    is_given : {i : ℕ} → k ≤ i → (LooksAlike turn c → ⊥) → StandsAt c s i → NoneBefore i → IsPlace (given_at i)
    is_turned : {i : ℕ} → k ≤ i → (LooksAlike turn c → ⊥) → StandsAt (turn c) s i → NoneBefore i → IsPlace (turned_at i)
    is_either : {i : ℕ} → k ≤ i → LooksAlike turn c → StandsAt c s i → NoneBefore i → IsPlace (either_at i)
    is_nowhere : ((j : ℕ) → k ≤ j → Neither turn c s j) → IsPlace nowhere

-- No way has to win: where both stand at one start, the word looks alike.
abbrev pub NoTie : (List ℕ → List ℕ) → Type 0
NoTie turn = (c s : List ℕ) (i : ℕ) → StandsAt c s i → StandsAt (turn c) s i → LooksAlike turn c

-- a search that finds each word's place on each row, from each first start on
abbrev pub Finds : (List ℕ → List ℕ) → (ℕ → List ℕ → List ℕ → Place) → Type 0
Finds turn find = (k : ℕ) (c s : List ℕ) → IsPlace turn k c s (find k c s)

-- the place of a word that stands as given at i
abbrev pub standing_at : (List ℕ → List ℕ) → List ℕ → ℕ → Place
standing_at turn c i = elim (same c (turn c)) [ true ↦ either_at i | false ↦ given_at i ]

-- The search: s is what is left of the row, and its first band has the number i.
abbrev pub place_from : (List ℕ → List ℕ) → ℕ → List ℕ → List ℕ → Place
place_from turn i c [] = elim (begins c []) [
  | true ↦ standing_at turn c i
  | false ↦ elim (begins (turn c) []) [ true ↦ turned_at i | false ↦ nowhere ]
]
place_from turn i c (b ∷ s) = elim (begins c (b ∷ s)) [
  | true ↦ standing_at turn c i
  | false ↦ elim (begins (turn c) (b ∷ s)) [ true ↦ turned_at i | false ↦ place_from turn (suc i) c s ]
]

-- k starts more are passed over; behind the row there is none
abbrev pub place_past : (List ℕ → List ℕ) → ℕ → ℕ → List ℕ → List ℕ → Place
place_past turn zero i c s = place_from turn i c s
place_past turn (suc k) i c [] = nowhere
place_past turn (suc k) i c (b ∷ s) = place_past turn k (suc i) c s

abbrev pub place_of : (List ℕ → List ℕ) → ℕ → List ℕ → List ℕ → Place
place_of turn k c s = place_past turn k 0 c s

abbrev pub found : Place → Bool
found (given_at i) = true
found (turned_at i) = true
found (either_at i) = true
found nowhere = false
