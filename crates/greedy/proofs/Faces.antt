-- What faces spell: a code as it is, or turned. So a face stands where its code does some way, two faces share as much as
-- their mirrors do the other way round, and the inequality of four words is one of four faces.
use mathlib.Core.Path.{◌≡◌, ap, subst, ◌∙◌}
use mathlib.Core.Bool.{Bool}
use mathlib.Core.Logic.{◌⊎◌, inl, inr}
use mathlib.Core.List.{List}
use Prim.Native.Nat.{ℕ, ◌*◌, ◌/◌, ◌%◌}
use native.Mathlib.Omega.{arith}
use lib.ListN.{length}
use borrow.Author.Tests.{eq-eqb, ne_eqb}
use Rattle.words.specs.Tests.{pick}
use Rattle.words.specs.Turn.{Turning}
use Rattle.words.specs.Stand.{Stands, StandsSomeWay}
use Rattle.words.proofs.Standing.{way_turned}
use Rattle.words.proofs.Overlaps.{overlap-turned, overlap_monge}
use Rattle.joins.specs.Faces.{mirror}
use Rattle.joins.proofs.Mirrors.{Sides, sides, mirror_half}
use Rattle.joins.proofs.Junctions.{Even, Monge}
use Rattle.greedy.specs.Dropping.{code_at}
use Rattle.greedy.specs.Reading.{face_of, shared}

module _ {turn : List ℕ → List ℕ} (t : Turning turn) (ks : List (List ℕ)) where
  abbrev pub code_of : ℕ → List ℕ
  code_of f = code_at ks (f / 2)

  as_given : (f : ℕ) → f % 2 ≡ 0 → face_of turn ks f ≡ code_of f
  as_given f e = ap (λ (b : Bool). pick b (code_of f) (turn (code_of f))) (eq-eqb (f % 2) 0 e)

  as_turned : (f : ℕ) → f % 2 ≡ 1 → face_of turn ks f ≡ turn (code_of f)
  as_turned f e = ap (λ (b : Bool). pick b (code_of f) (turn (code_of f))) (ne_eqb (f % 2) 0 (omega arith))

  pub face_even : (k : ℕ) → face_of turn ks (2 * k) ≡ code_at ks k
  face_even k = as_given (2 * k) (omega arith) ∙ ap (code_at ks) (omega arith)

  pub face_mirror : (f : ℕ) → face_of turn ks (mirror f) ≡ turn (face_of turn ks f)
  face_mirror f = go (sides f)
    where
      one_code : code_of (mirror f) ≡ code_of f
      one_code = ap (code_at ks) (mirror_half f)

      go : Sides f → face_of turn ks (mirror f) ≡ turn (face_of turn ks f)
      go (inl x) = cc (as_turned (mirror f) (omega arith), one_code, as_given f x.0)
      go (inr x) = cc (as_given (mirror f) (omega arith), one_code, as_turned f x.0, t.back (code_of f))

  pub length-mirror : (f : ℕ) → length (face_of turn ks (mirror f)) ≡ length (face_of turn ks f)
  length-mirror f = ap length (face_mirror f) ∙ t.as_long (face_of turn ks f)

  -- where a face stands, its code stands some way; and what stands in a face stands some way in its code
  either : (f : ℕ) → (face_of turn ks f ≡ code_of f) ⊎ (face_of turn ks f ≡ turn (code_of f))
  either f = go (sides f)
    where
      go : Sides f → (face_of turn ks f ≡ code_of f) ⊎ (face_of turn ks f ≡ turn (code_of f))
      go (inl x) = inl (as_given f x.0)
      go (inr x) = inr (as_turned f x.0)

  pub face_stands : (f : ℕ) {s : List ℕ} → Stands (face_of turn ks f) s → StandsSomeWay turn (code_of f) s
  face_stands f {s} h = go (either f)
    where
      go : (face_of turn ks f ≡ code_of f) ⊎ (face_of turn ks f ≡ turn (code_of f)) → StandsSomeWay turn (code_of f) s
      go (inl e) = inl (subst (λ (c : List ℕ). Stands c s) e h)
      go (inr e) = inr (subst (λ (c : List ℕ). Stands c s) e h)

  pub in_face : (f : ℕ) {c : List ℕ} → StandsSomeWay turn c (face_of turn ks f) → StandsSomeWay turn c (code_of f)
  in_face f {c} h = go (either f)
    where
      go : (face_of turn ks f ≡ code_of f) ⊎ (face_of turn ks f ≡ turn (code_of f)) → StandsSomeWay turn c (code_of f)
      go (inl e) = subst (StandsSomeWay turn c) e h
      go (inr e) = subst (StandsSomeWay turn c) (ap turn e ∙ t.back (code_of f)) (way_turned t h)

  pub shared_even : Even (shared turn ks)
  shared_even f g = cc (face_mirror f, face_mirror g, overlap-turned t (face_of turn ks f) (face_of turn ks g))

  pub shared_monge : Monge (shared turn ks)
  shared_monge a b c d = overlap_monge (face_of turn ks a) (face_of turn ks b) (face_of turn ks c) (face_of turn ks d)
