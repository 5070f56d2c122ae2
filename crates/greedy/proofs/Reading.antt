-- Reading an order of faces, whatever it is: each face adds its bands past what it shares with the one before.
-- So the faces stand in what is read, and lengths and overlaps add up to the lengths of the faces.
use mathlib.Core.Path.{◌≡◌, refl, sym, ap, subst, ◌∙◌}
use mathlib.Core.Logic.{inl, inr}
use mathlib.Core.List.{List, [], ◌∷◌, ◌++◌, append_assoc}
use Prim.Native.Nat.{ℕ, suc, ◌+◌}
use native.Mathlib.Omega.{arith}
use lib.ListN.{length, drop, length-append, length-drop}
use lib.Seq.{drop_at}
use Rattle.words.specs.Lists.{In}
use Rattle.words.specs.Turn.{Turning}
use Rattle.words.specs.Stand.{Stands}
use Rattle.words.specs.Overlap.{Shares}
use Rattle.words.proofs.Standing.{stands_after}
use Rattle.words.proofs.Overlaps.{overlap_shares, overlap_right}
use Rattle.lists.specs.Runs.{total, lengths}
use Rattle.joins.proofs.Sums.{sum}
use Rattle.joins.proofs.State.{singles}
use Rattle.greedy.specs.Dropping.{code_at}
use Rattle.greedy.specs.Reading.{face_of, shared, past, read_piece, saved_along}
use Rattle.greedy.proofs.Faces.{face_even}

module _ (turn : List ℕ → List ℕ) (ks : List (List ℕ)) where
  abbrev pub face_length : ℕ → ℕ
  face_length f = length (face_of turn ks f)

  -- lengths
  past_length : (f : ℕ) (p : List ℕ) → length (past turn ks f p) + saved_along turn ks (f ∷ p) ≡ sum face_length p
  past_length f [] = refl
  past_length f (g ∷ p) =
      let o = shared turn ks f g in
      omega (
        arith,
        length-append (drop o (face_of turn ks g)) (past turn ks g p),
        length-drop o (face_of turn ks g),
        overlap_right (face_of turn ks f) (face_of turn ks g),
        past_length g p,
      )

  pub read_length : (p : List ℕ) → length (read_piece turn ks p) + saved_along turn ks p ≡ sum face_length p
  read_length [] = refl
  read_length (f ∷ p) = omega (arith, length-append (face_of turn ks f) (past turn ks f p), past_length f p)

  -- standing: after a face, what it does not share is read on from the face that comes next
  onward : (f g : ℕ) (p : List ℕ) → (x : List ℕ) × (read_piece turn ks (f ∷ (g ∷ p)) ≡ x ++ read_piece turn ks (g ∷ p))
  onward f g p = (h.rest, cut)
    where
      o : ℕ
      o = shared turn ks f g

      a : List ℕ
      a = face_of turn ks f

      b : List ℕ
      b = face_of turn ks g

      h : Shares a b o
      h = overlap_shares a b

      more : drop o b ≡ h.more
      more = ap (drop o) h.beginning ∙ drop_at h.shared h.more o h.size

      cut : a ++ (drop o b ++ past turn ks g p) ≡ h.rest ++ (b ++ past turn ks g p)
      cut =
          cc (
            more,
            h.ending,
            h.beginning,
            append_assoc h.rest h.shared (h.more ++ past turn ks g p),
            append_assoc h.shared h.more (past turn ks g p),
          )

  pub face_in : (f : ℕ) (p : List ℕ) → In f p → Stands (face_of turn ks f) (read_piece turn ks p)
  face_in f [] x' = elim x' [ ]
  face_in f (g ∷ []) (inr i) = elim i [ ]
  face_in f (g ∷ p) (inl e) = rw e (record { before = []; after = past turn ks g p; parts = refl })
  face_in f (g ∷ (k ∷ p)) (inr i) =
      let r = onward g k p in
      subst (Stands (face_of turn ks f)) (sym r.1) (stands_after r.0 (face_in f (k ∷ p) i))

-- all the faces as given
pub singles_total : {turn : List ℕ → List ℕ} → Turning turn → (ks : List (List ℕ))
    → sum (sum (face_length turn ks)) (singles 0 (length ks)) ≡ total (lengths ks)
singles_total {turn} t ks = from ks 0 (λ j. ap (code_at ks) (omega arith))
  where
    from : (xs : List (List ℕ)) (k : ℕ) → ((j : ℕ) → code_at ks (k + j) ≡ code_at xs j)
        → sum (sum (face_length turn ks)) (singles k (length xs)) ≡ total (lengths xs)
    from [] k h = refl
    from (x ∷ xs) k h =
        let z : k ≡ k + 0 = omega arith in
        let e : code_at ks k ≡ x = ap (code_at ks) z ∙ h 0 in
        omega (arith, ap length (face_even t ks k ∙ e), from xs (suc k) (λ j. shift j ∙ h (suc j)))
      where
        shift : (j : ℕ) → code_at ks (suc k + j) ≡ code_at ks (k + suc j)
        shift j = ap (code_at ks) (omega arith)
