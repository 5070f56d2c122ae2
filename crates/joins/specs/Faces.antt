-- Faces, joins and pieces by number.
use Rattle.std.specs.Prelude.{List, [], ◌∷◌, ℕ, suc, ◌-◌, ◌%◌, eqb}
use Rattle.words.specs.Tests.{pick}

-- Kept code k has two faces (vertices of the overlap graph): 2k as given, 2k + 1 turned. The mirror of a face is the
-- other face of the same code (the reversed vertex).
abbrev pub mirror : ℕ → ℕ
mirror f = pick (eqb (f % 2) 0) (suc f) (f - 1)

-- a join (an arc) from one face to another
pub record Join : Type 0 where
  pub left : ℕ
  pub right : ℕ

abbrev pub join : ℕ → ℕ → Join
join a b = record { left = a; right = b }

-- The joins made, the latest first: the join from a to b and its mirror, from b's mirror to a's mirror, are both made.
abbrev pub join_both : ℕ → ℕ → List Join → List Join
join_both a b js = join a b ∷ (join (mirror b) (mirror a) ∷ js)

-- the first and the last face of a piece (a path)
abbrev pub head_of : List ℕ → ℕ
head_of [] = 0
head_of (f ∷ fs) = f

abbrev pub last_of : List ℕ → ℕ
last_of [] = 0
last_of (f ∷ []) = f
last_of (f ∷ (g ∷ fs)) = last_of (g ∷ fs)
