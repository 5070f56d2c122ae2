-- How often a word stands on a row: the number of starts at which either way stands, each start once.
use Rattle.std.specs.Prelude.{◌≡◌, ◌||◌, List, [], ◌∷◌, ℕ, ◌+◌, length}
use Rattle.words.specs.Lists.{In, Rising}
use Rattle.words.specs.Tests.{pick}
use Rattle.words.specs.Stand.{StandsHere, begins}

module _ (turn : List ℕ → List ℕ) (c s : List ℕ) where
  -- there are n starts at which some way stands: a rising row has exactly those, and it is so long
  pub record IsCount (n : ℕ) : Type 0 where
    pub starts : List ℕ
    pub in_order : Rising starts
    pub only : (i : ℕ) → In i starts → StandsHere turn c s i
    pub all : (i : ℕ) → StandsHere turn c s i → In i starts
    pub size : length starts ≡ n

-- The claim that pins the count.
abbrev pub Counts : (List ℕ → List ℕ) → (List ℕ → List ℕ → ℕ) → Type 0
Counts turn count = (c s : List ℕ) → IsCount turn c s (count c s)

-- Computed start by start: s is what is left of the row.
abbrev pub count_here : (List ℕ → List ℕ) → List ℕ → List ℕ → ℕ
count_here turn c s = pick (begins c s || begins (turn c) s) 1 0

abbrev pub count_of : (List ℕ → List ℕ) → List ℕ → List ℕ → ℕ
count_of turn c [] = count_here turn c []
count_of turn c (b ∷ s) = count_here turn c (b ∷ s) + count_of turn c s
