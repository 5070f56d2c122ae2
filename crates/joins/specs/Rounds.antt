-- The joining computed (document 004's Greedy-R2): in each round all joins are tried, and the best that is allowed is made.
use Rattle.std.specs.Prelude.{Bool, true, false, ◌&&◌, not, ◌||◌, List, [], ◌∷◌, ◌++◌, map, ℕ, zero, suc, ◌-◌, ◌*◌, eqb, ltb}
use Rattle.words.specs.Tests.{pick}
use Rattle.joins.specs.Faces.{mirror, Join, join, join_both}

-- the face after f, plus 1; 0 where f ends a piece
abbrev pub after_in : ℕ → List Join → ℕ
after_in f [] = 0
after_in f (j ∷ js) = elim (eqb f j.left) [ true ↦ suc j.right | false ↦ after_in f js ]

abbrev pub ends_piece : List Join → ℕ → Bool
ends_piece js f = eqb (after_in f js) 0

-- every join is made with its mirror, so a face begins a piece where its mirror ends one
abbrev pub begins_piece : List Join → ℕ → Bool
begins_piece js f = ends_piece js (mirror f)

-- the last face of the piece that holds f, which has at most n faces, and the first
abbrev pub end_from_lem : ℕ → ℕ → List Join → ℕ
end_from_lem zero f js = f
end_from_lem (suc n) f js = let x = after_in f js in elim (eqb x 0) [ true ↦ f | false ↦ end_from_lem n (x - 1) js ]

abbrev pub start_from : ℕ → ℕ → List Join → ℕ
start_from n f js = mirror (end_from_lem n (mirror f) js)

-- a ends a piece, b begins a different one, b is not a's mirror
abbrev pub allowed : ℕ → List Join → Join → Bool
allowed n js j =
    ends_piece js j.left
    && (begins_piece js j.right
    && (not (eqb (end_from_lem (2 * n) j.right js) j.left) && not (eqb j.right (mirror j.left))))

-- The tie rule, in one comparison: j is better than k if its overlap is larger, or as large and its key is lower, at the
-- first difference; the key is the face that it goes from, then the one that it goes to.
abbrev pub lower : List ℕ → List ℕ → Bool
lower [] [] = false
lower [] (y ∷ ys) = true
lower (x ∷ xs) [] = false
lower (x ∷ xs) (y ∷ ys) = ltb x y || (eqb x y && lower xs ys)

abbrev pub key : Join → List ℕ
key j = j.left ∷ (j.right ∷ [])

abbrev pub overlap_by : (ℕ → ℕ → ℕ) → Join → ℕ
overlap_by w j = w j.left j.right

abbrev pub better : (ℕ → ℕ → ℕ) → Join → Join → Bool
better w j k =
    ltb (overlap_by w k) (overlap_by w j) || (eqb (overlap_by w k) (overlap_by w j) && lower (key j) (key k))

-- of the joins in a list that may be made, the one that is better than the others; none if none may
pub data Best : Type 0 where
  none : Best
  best : Join → Best

abbrev pub prefer : (Join → Join → Bool) → Join → Best → Best
prefer better j none = best j
prefer better j (best k) = best (pick (better k j) k j)

abbrev pub best_of : (Join → Join → Bool) → (Join → Bool) → List Join → Best
best_of better may [] = none
best_of better may (j ∷ js) = elim (may j) [
  | true ↦ prefer better j (best_of better may js)
  | false ↦ best_of better may js
]

-- all joins between the faces below m
abbrev pub below : ℕ → List ℕ
below zero = []
below (suc m) = m ∷ below m

abbrev pub pairs : List ℕ → List ℕ → List Join
pairs [] bs = []
pairs (a ∷ fs) bs = map (join a) bs ++ pairs fs bs

abbrev pub best_join : ℕ → (ℕ → ℕ → ℕ) → List Join → Best
best_join n w js = best_of (better w) (allowed n js) (pairs (below (2 * n)) (below (2 * n)))

-- Rounds: a join and its mirror each, as many as there are kept codes after the first. Some join is allowed as long as two
-- pieces are left (`AlwaysAllowed`), so no round finds none.
abbrev pub rounds_from : ℕ → ℕ → (ℕ → ℕ → ℕ) → List Join → List Join
rounds_from zero n w js = js
rounds_from (suc f) n w js = elim (best_join n w js) [
  | none ↦ js
  | best j ↦ rounds_from f n w (join_both j.left j.right js)
]

abbrev pub layout_of : ℕ → (ℕ → ℕ → ℕ) → List Join
layout_of n w = rounds_from (n - 1) n w []

-- The piece that holds face 0, read from its start: an order of the kept codes, each by one of its faces.
abbrev pub piece_from : ℕ → ℕ → List Join → List ℕ
piece_from zero f js = []
piece_from (suc n) f js = let x = after_in f js in f ∷ elim (eqb x 0) [ true ↦ [] | false ↦ piece_from n (x - 1) js ]

abbrev pub piece_of : ℕ → List Join → List ℕ
piece_of n js = piece_from (2 * n) (start_from (2 * n) 0 js) js

abbrev pub order_of : ℕ → (ℕ → ℕ → ℕ) → List ℕ
order_of n w = piece_of n (layout_of n w)
