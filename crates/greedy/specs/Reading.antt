-- Faces as bands, and the ribbon that an order of faces gives, whatever the order.
use Rattle.std.specs.Prelude.{List, [], ◌∷◌, ◌++◌, ℕ, zero, suc, ◌/◌, ◌%◌, eqb, drop, get_or}
use Rattle.words.specs.Tests.{pick}
use Rattle.words.specs.Overlap.{overlap}
use Rattle.joins.specs.Rules.{along}
use Rattle.greedy.specs.Dropping.{code_at}

module _ (turn : List ℕ → List ℕ) (ks : List (List ℕ)) where
  -- Kept code k has two faces: 2k as given, 2k + 1 turned. They are two faces even when they read alike.
  abbrev pub face_of : ℕ → List ℕ
  face_of f = let c = code_at ks (f / 2) in pick (eqb (f % 2) 0) c (turn c)

  -- the overlap from face a to face b (the weight of an arc)
  abbrev pub shared : ℕ → ℕ → ℕ
  shared a b = overlap (face_of a) (face_of b)

  -- Each face after the first adds its bands past the overlap.
  abbrev pub past : ℕ → List ℕ → List ℕ
  past f [] = []
  past f (g ∷ p) = drop (shared f g) (face_of g) ++ past g p

  -- the ribbon (superstring) of an order of faces, and what it saves: the sum of the overlaps along it
  abbrev pub read_piece : List ℕ → List ℕ
  read_piece [] = []
  read_piece (f ∷ p) = face_of f ++ past f p

  abbrev pub saved_along : List ℕ → ℕ
  saved_along p = along shared p

  -- the overlap of face number i of an order with the one before it; none for the first
  abbrev pub skip_at_lem : List ℕ → ℕ → ℕ
  skip_at_lem p zero = 0
  skip_at_lem p (suc i) = shared (get_or p i 0) (get_or p (suc i) 0)
