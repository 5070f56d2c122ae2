-- Reading an order face by face: with one face more the ribbon grows by that face's bands past what it shares with the
-- one before, and the saving by what it shares.
use mathlib.Core.Path.{◌≡◌, refl, sym, ap, ◌∙◌}
use mathlib.Core.List.{List, [], ◌∷◌, ◌++◌, append_assoc, append-nil}
use mathlib.Core.Logic.{◌≢◌}
use Prim.Native.Nat.{ℕ, zero, suc, ◌+◌, ◌-◌, ◌≤◌, ◌<◌}
use native.Mathlib.Numerals.{add-one}
use native.Mathlib.Omega.{arith}
use lib.ListN.{length, take, drop, get_or, length-append, length-drop}
use Rattle.words.specs.Turn.{turned}
use Rattle.words.specs.Written.{Written}
use Rattle.words.proofs.Written.{both_written}
use Rattle.words.proofs.Overlaps.{overlap_right}
use Rattle.lists.specs.Runs.{over}
use Rattle.lists.proofs.Runs.{over_written, written_over}
use Rattle.greedy.specs.Reading.{face_of, shared, past, read_piece, saved_along, skip_at_lem}
use Rattle.spelling.specs.Ribbons.{InOrder}

module _ (turn : List ℕ → List ℕ) (ks : List (List ℕ)) where
  -- what face g adds after face f
  abbrev adds : ℕ → ℕ → List ℕ
  adds f g = drop (shared turn ks f g) (face_of turn ks g)

  past_more : (f : ℕ) (p : List ℕ) (i : ℕ) → i < length p
      → past turn ks f (take (suc i) p) ≡ past turn ks f (take i p) ++ adds (get_or (f ∷ p) i 0) (get_or p i 0)
  past_more f [] i h = absurd (omega arith)
  past_more f (g ∷ p) zero h = append-nil (adds f g)
  past_more f (g ∷ p) (suc i) h =
      ap (λ (r : List ℕ). adds f g ++ r) (past_more g p i (omega arith))
      ∙ sym (append_assoc (adds f g) (past turn ks g (take i p)) (adds (get_or (g ∷ p) i 0) (get_or p i 0)))

  pub read_more : (p : List ℕ) (i : ℕ) → i < length p
      → read_piece turn ks (take (suc i) p)
      ≡ read_piece turn ks (take i p) ++ drop (skip_at_lem turn ks p i) (face_of turn ks (get_or p i 0))
  read_more [] i h = absurd (omega arith)
  read_more (f ∷ p) zero h = append-nil (face_of turn ks f)
  read_more (f ∷ p) (suc i) h =
      ap (λ (r : List ℕ). face_of turn ks f ++ r) (past_more f p i (omega arith))
      ∙ sym (append_assoc (face_of turn ks f) (past turn ks f (take i p)) (adds (get_or (f ∷ p) i 0) (get_or p i 0)))

  pub saved_more : (p : List ℕ) (i : ℕ) → i < length p
      → saved_along turn ks (take (suc i) p) ≡ saved_along turn ks (take i p) + skip_at_lem turn ks p i
  saved_more [] i h = absurd (omega arith)
  saved_more (f ∷ p) zero h = refl
  saved_more (f ∷ (g ∷ p)) (suc zero) h = omega arith
  saved_more (f ∷ []) (suc i) h = absurd (omega arith)
  saved_more (f ∷ (g ∷ p)) (suc (suc i)) h = omega (arith, saved_more (g ∷ p) (suc i) (omega arith))

  past_part : (f : ℕ) (p : List ℕ) (i : ℕ) → length (past turn ks f (take i p)) ≤ length (past turn ks f p)
  past_part f p zero = omega arith
  past_part f [] (suc i) = omega arith
  past_part f (g ∷ p) (suc i) =
      omega (
        arith,
        length-append (adds f g) (past turn ks g (take i p)),
        length-append (adds f g) (past turn ks g p),
        past_part g p i,
      )

  -- the ribbon of the first faces is no longer than the whole
  pub read_part : (p : List ℕ) (i : ℕ) → length (read_piece turn ks (take i p)) ≤ length (read_piece turn ks p)
  read_part p zero = omega arith
  read_part [] (suc i) = omega arith
  read_part (f ∷ p) (suc i) =
      omega (
        arith,
        length-append (face_of turn ks f) (past turn ks f (take i p)),
        length-append (face_of turn ks f) (past turn ks f p),
        past_part f p i,
      )

-- The same of an order, as the routines have it.
module _ {ks : List (List ℕ)} {p : List ℕ} (o : InOrder ks p) {i : ℕ} (h : i < length p) where
  abbrev face : List ℕ
  face = face_of turned ks (get_or p i 0)

  -- what is shared is part of the face
  pub skip_in : skip_at_lem turned ks p i ≤ length face
  skip_in = go i refl
    where
      go : (j : ℕ) → j ≡ i → skip_at_lem turned ks p j ≤ length face
      go zero e = omega arith
      go (suc j) e = rw e (overlap_right (face_of turned ks (get_or p j 0)) face)

  pub skip_next : i ≢ 0 → shared turned ks (get_or p (i - 1) 0) (get_or p i 0) ≡ skip_at_lem turned ks p i
  skip_next d = go i refl
    where
      go : (j : ℕ) → j ≡ i → shared turned ks (get_or p (i - 1) 0) (get_or p i 0) ≡ skip_at_lem turned ks p i
      go zero q = absurd (d (sym q))
      go (suc j) q =
          let b : i - 1 ≡ j = omega arith in
          let t = ap (λ (x : ℕ). shared turned ks (get_or p j 0) (get_or p x 0)) (sym q) in
          rw b (t ∙ ap (skip_at_lem turned ks p) q)

  grown : read_piece turned ks (take (i + 1) p) ≡ read_piece turned ks (take i p) ++ drop (skip_at_lem turned ks p i) face
  grown = rw add-one (read_more turned ks p i h)

  -- lengths and savings, face by face
  pub longer : length (read_piece turned ks (take i p)) + (length face - skip_at_lem turned ks p i)
      ≡ length (read_piece turned ks (take (i + 1) p))
  longer =
      omega (
        arith,
        ap length grown,
        length-append (read_piece turned ks (take i p)) (drop (skip_at_lem turned ks p i) face),
        length-drop (skip_at_lem turned ks p i) face,
      )

  pub saves : saved_along turned ks (take i p) + skip_at_lem turned ks p i ≡ saved_along turned ks (take (i + 1) p)
  saves = rw add-one (sym (saved_more turned ks p i h))

  -- one face more fits where the whole ribbon does
  pub face_fits : length (read_piece turned ks (take i p)) + (length face - skip_at_lem turned ks p i)
      ≤ length (read_piece turned ks p)
  face_fits = omega (arith, longer, read_part turned ks p (i + 1))

  -- A face c written past what is shared, behind the ribbon of the faces before it.
  module _ {c : List ℕ} (c-is : c ≡ face) {s : ℕ} (s-is : s ≡ skip_at_lem turned ks p i) {at : ℕ}
      (at-is : at ≡ length (read_piece turned ks (take i p))) where
    pub write_fits : {room : ℕ} → length (read_piece turned ks p) ≤ room → (s ≤ length c) × (at + (length c - s) ≤ room)
    write_fits l = (omega (arith, skip_in, ap length c-is), omega (arith, face_fits, ap length c-is))

    pub write_next : (row : List ℕ) {old new : List ℕ} {r : ℕ} → old ≡ over (read_piece turned ks (take i p)) row
        → Written old at (drop s c) new r
        → (r ≡ length (read_piece turned ks (take (i + 1) p))) × (new ≡ over (read_piece turned ks (take (i + 1) p)) row)
    write_next row {old} {new} {r} e w =
        let t = read_piece turned ks (take i p) in
        let v : Written row 0 t old at = rw (e, at-is) (over_written t row) in
        rw grown (written_over (both_written (omega arith) v (rw (c-is, s-is) at w)))
