-- Document 01's rules for joining n kept codes, where w is the overlap from one face to another, as claims on any list of
-- joins: what somebody hands us is right if it meets them. No search is written here.
use Rattle.std.specs.Prelude.{◌≡◌, ◌⊎◌, ◌≢◌, List, [], ◌∷◌, ℕ, ◌+◌, ◌*◌, ◌≤◌, ◌<◌}
use Rattle.words.specs.Lists.{In}
use Rattle.joins.specs.Faces.{mirror, Join, join, head_of, last_of}

-- f is joined to g
abbrev pub Joined : List Join → ℕ → ℕ → Type 0
Joined [] f g = ⊥
Joined (j ∷ js) f g = ((f ≡ j.left) × (g ≡ j.right)) ⊎ Joined js f g

abbrev pub Chain : List Join → List ℕ → Type 0
Chain js [] = ⊥
Chain js (f ∷ []) = Unit {0}
Chain js (f ∷ (g ∷ p)) = Joined js f g × Chain js (g ∷ p)

-- a piece (a maximal path): faces, each joined to the next, with none joined before the first or after the last
pub record IsPiece (js : List Join) (p : List ℕ) : Type 0 where
  pub chain : Chain js p
  pub starts : (f : ℕ) → Joined js f (head_of p) → ⊥
  pub ends : (g : ℕ) → Joined js (last_of p) g → ⊥

-- A join from a to b is allowed when a ends a piece, b begins a different piece, and b is not the mirror of a.
pub record Allowed (n : ℕ) (js : List Join) (a b : ℕ) : Type 0 where
  pub faces : (a < 2 * n) × (b < 2 * n)
  pub p : List ℕ
  pub q : List ℕ
  pub pieces : IsPiece js p × IsPiece js q
  pub ends_p : last_of p ≡ a
  pub begins_q : head_of q ≡ b
  pub different : p ≢ q
  pub unmirrored : b ≢ mirror a

-- Each round takes an allowed join with the largest overlap,
pub record Largest (n : ℕ) (w : ℕ → ℕ → ℕ) (js : List Join) (a b : ℕ) : Type 0 where
  pub allowed : Allowed n js a b
  pub most : (c d : ℕ) → Allowed n js c d → w c d ≤ w a b

-- and of those the lowest a, then the lowest b.
pub record Chosen (n : ℕ) (w : ℕ → ℕ → ℕ) (js : List Join) (a b : ℕ) : Type 0 where
  pub largest : Largest n w js a b
  pub lowest_a : (c d : ℕ) → Allowed n js c d → w c d ≡ w a b → a ≤ c
  pub lowest_b : (d : ℕ) → Allowed n js a d → w a d ≡ w a b → b ≤ d

-- Rounds, each with a join that the rule picks: the join and its mirror are both made.
pub data Run (Picks : List Join → ℕ → ℕ → Type 0) : List Join → Type 0 where
  start : Run Picks []
  round : {js : List Join} {a b : ℕ} → Run Picks js → Picks js a b
      → Run Picks (join a b ∷ (join (mirror b) (mirror a) ∷ js))

-- Two pieces remain that mirror each other: every face is in the one, or its mirror is.
pub record Remains (n : ℕ) (js : List Join) : Type 0 where
  pub p : List ℕ
  pub piece : IsPiece js p
  pub every : (f : ℕ) → f < 2 * n → In f p ⊎ In (mirror f) p

-- Rounds go on until then.
pub record Joins (Picks : List Join → ℕ → ℕ → Type 0) (n : ℕ) (js : List Join) : Type 0 where
  pub rounds : Run Picks js
  pub remains : Remains n js

-- The claim that pins the joining.
abbrev pub Joiner : (ℕ → (ℕ → ℕ → ℕ) → List Join) → Type 0
Joiner make = (n : ℕ) (w : ℕ → ℕ → ℕ) → Joins (Chosen n w) n (make n w)

-- what a piece saves (a path's weight): the sum of the overlaps along it
abbrev pub along : (ℕ → ℕ → ℕ) → List ℕ → ℕ
along w [] = 0
along w (f ∷ []) = 0
along w (f ∷ (g ∷ p)) = w f g + along w (g ∷ p)
