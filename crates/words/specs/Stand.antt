-- Standing: a word is a run of neighbouring bands in a row (a factor of a string), at some start.
use Rattle.std.specs.Prelude.{◌≡◌, ◌⊎◌, Bool, true, false, ◌&&◌, ◌||◌, List, [], ◌∷◌, ◌++◌, ℕ, eqb, length}

-- c stands in s: s is some bands, then c, then some more
pub record Stands (c s : List ℕ) : Type 0 where
  pub before : List ℕ
  pub after : List ℕ
  pub parts : s ≡ before ++ (c ++ after)

-- c stands at the start i: all its bands follow one another from there; starts are counted from 0
pub record StandsAt (c s : List ℕ) (i : ℕ) : Type 0 where
  pub stands : Stands c s
  pub start : length stands.before ≡ i

-- one way or the other, as given or turned (the string or its reversal is a factor)
abbrev pub StandsSomeWay : (List ℕ → List ℕ) → List ℕ → List ℕ → Type 0
StandsSomeWay turn c s = Stands c s ⊎ Stands (turn c) s

-- one way or the other stands at the start i
abbrev pub StandsHere : (List ℕ → List ℕ) → List ℕ → List ℕ → ℕ → Type 0
StandsHere turn c s i = StandsAt c s i ⊎ StandsAt (turn c) s i

-- The tests of it.
abbrev pub begins : List ℕ → List ℕ → Bool
begins [] s = true
begins (x ∷ xs) [] = false
begins (x ∷ xs) (y ∷ s) = eqb x y && begins xs s

abbrev pub stands_in : List ℕ → List ℕ → Bool
stands_in c [] = begins c []
stands_in c (b ∷ s) = begins c (b ∷ s) || stands_in c s

abbrev pub some_way : (List ℕ → List ℕ) → List ℕ → List ℕ → Bool
some_way turn c s = stands_in c s || stands_in (turn c) s
