-- A ribbon has no byte but bands of its codes: what holds of every band of every code, and still does when a code is turned,
-- holds of every band of the ribbon. It is read from faces, and each face after the first adds an ending of one.
use mathlib.Core.Bool.{Bool, true, false}
use mathlib.Core.List.{List, [], ◌∷◌}
use Prim.Native.Nat.{ℕ, ◌/◌, ◌%◌}
use lib.Dec.{eqb}
use lib.ListN.{drop}
use Rattle.words.specs.Tests.{pick}
use Rattle.words.specs.Lists.{Each}
use Rattle.words.proofs.Lists.{each_at, each_drop, each_append}
use Rattle.greedy.specs.Dropping.{code_at}
use Rattle.greedy.specs.Reading.{face_of, shared, past, read_piece}
use Rattle.greedy.specs.Rules.{Picking, Lays}
use Rattle.greedy.proofs.Keeping.{stand_keeps}

module _ (P : ℕ → Type 0) (turn : List ℕ → List ℕ) (turns : (c : List ℕ) → Each P c → Each P (turn c)) where
  module _ (ks : List (List ℕ)) (h : Each (Each P) ks) where
    face_each : (f : ℕ) → Each P (face_of turn ks f)
    face_each f = by (eqb (f % 2) 0)
      where
        code : Each P (code_at ks (f / 2))
        code = each_at (Each P) ks [] tt h (f / 2)

        by : (t : Bool) → Each P (pick t (code_at ks (f / 2)) (turn (code_at ks (f / 2))))
        by true = code
        by false = turns (code_at ks (f / 2)) code

    past_each : (f : ℕ) (p : List ℕ) → Each P (past turn ks f p)
    past_each f [] = tt
    past_each f (g ∷ p) =
        let n = shared turn ks f g in
        each_append P (drop n (face_of turn ks g)) (past turn ks g p) (each_drop P n (face_of turn ks g) (face_each g))
        (past_each g p)

    read_each : (p : List ℕ) → Each P (read_piece turn ks p)
    read_each [] = tt
    read_each (f ∷ p) = each_append P (face_of turn ks f) (past turn ks f p) (face_each f) (past_each f p)

  pub ribbon_each : {Picks : Picking} {cs : List (List ℕ)} {ribbon : List ℕ} {saved : ℕ}
      → Lays Picks turn cs ribbon saved → Each (Each P) cs → Each P ribbon
  ribbon_each x h = rw x.reads.read (read_each x.ks (stand_keeps (Each P) x.keeps h) x.reads.order)
