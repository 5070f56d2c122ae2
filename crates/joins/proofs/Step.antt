-- A join made: where a is the last face of one piece and b the first of another, the two become one piece, and the
-- state is kept. What was linked stays linked, since nothing came after a or before b, nor at their mirrors.
use mathlib.Core.Path.{◌≡◌, refl, sym, ap, ◌∙◌}
use mathlib.Core.Logic.{◌≢◌}
use mathlib.Core.List.{List, [], ◌∷◌, ◌++◌}
use Prim.Native.Nat.{ℕ, suc, ◌/◌, ◌≤◌}
use native.Mathlib.Omega.{arith}
use Rattle.words.specs.Lists.{In, Each}
use Rattle.joins.specs.Faces.{mirror, Join, join, join_both, head_of, last_of}
use Rattle.joins.specs.Rounds.{after_in}
use Rattle.joins.proofs.Sums.{sum, sum-append}
use Rattle.joins.proofs.Mirrors.{mirror-mirror, mirror_half, mirror_ne}
use Rattle.joins.proofs.Pieces.{Some, some_left, head_append, last_append, in_head, in_last}
use Rattle.joins.proofs.Pieces.{times_of, is_of_lem, in_times}
use Rattle.joins.proofs.Links.{after_yes, after_not, Link, Linked, linked_append, Piece}
use Rattle.joins.proofs.State.{State, state_most, state_differ, state_cross}

module _ (a b : ℕ) (js : List Join) where
  -- other faces are as before
  after_same : (f : ℕ) → f ≢ a → f ≢ mirror b → after_in f (join_both a b js) ≡ after_in f js
  after_same f u v = after_not f a b (join (mirror b) (mirror a) ∷ js) u ∙ after_not f (mirror b) (mirror a) js v

  -- and so are faces of other codes
  after_other : (f : ℕ) → f / 2 ≢ a / 2 → f / 2 ≢ b / 2 → after_in f (join_both a b js) ≡ after_in f js
  after_other f u v =
      after_same f (λ e. u (ap (λ (x : ℕ). x / 2) e)) (λ e. v (ap (λ (x : ℕ). x / 2) e ∙ mirror_half b))

  module _ (open-a : after_in a js ≡ 0) (open-b : after_in (mirror b) js ≡ 0) where
    -- what was linked stays linked
    pub after_kept : (f g : ℕ) → after_in f js ≡ suc g → after_in f (join_both a b js) ≡ suc g
    after_kept f g l = after_same f (not_open a open-a) (not_open (mirror b) open-b) ∙ l
      where
        not_open : (x : ℕ) → after_in x js ≡ 0 → f ≢ x
        not_open x o e = omega (arith, ap (λ (y : ℕ). after_in y js) e)

    linked_kept : (p : List ℕ) → Linked js p → Linked (join_both a b js) p
    linked_kept [] r = tt
    linked_kept (f ∷ []) r = tt
    linked_kept (f ∷ (g ∷ p)) r =
        ((after_kept f g r.0.0, after_kept (mirror g) (mirror f) r.0.1), linked_kept (g ∷ p) r.1)

    -- a piece without the two codes stays a piece
    piece_kept : (r : List ℕ) → times_of (a / 2) r ≡ 0 → times_of (b / 2) r ≡ 0 → Piece js r → Piece (join_both a b js) r
    piece_kept r u v h =
        record {
          some = h.some;
          linked = linked_kept r h.linked;
          starts = after_other (mirror (head_of r)) (other a u) (other b v) ∙ h.starts;
          ends = after_other (last_of r) (absent a u _ final) (absent b v _ final) ∙ h.ends;
        }
      where
        first : In (head_of r) r
        first = in_head r h.some

        final : In (last_of r) r
        final = in_last r h.some

        half : head_of r / 2 ≡ mirror (head_of r) / 2
        half = sym (mirror_half (head_of r))

        absent : (c : ℕ) → times_of (c / 2) r ≡ 0 → (f : ℕ) → In f r → f / 2 ≢ c / 2
        absent c none f i e = omega (arith, in_times f r i, ap (λ (z : ℕ). times_of z r) e)

        other : (c : ℕ) → times_of (c / 2) r ≡ 0 → mirror (head_of r) / 2 ≢ c / 2
        other c none e = absent c none (head_of r) first (half ∙ e)

    pieces_kept : (R : List (List ℕ)) → sum (times_of (a / 2)) R ≡ 0 → sum (times_of (b / 2)) R ≡ 0
        → Each (Piece js) R → Each (Piece (join_both a b js)) R
    pieces_kept [] u v h = tt
    pieces_kept (r ∷ R) u v h =
        (piece_kept r (omega arith) (omega arith) h.0, pieces_kept R (omega arith) (omega arith) h.1)

-- the two ends of a piece are no mirrors of each other
ends_apart : (p : List ℕ) → Some p → ((k : ℕ) → times_of k p ≤ 1) → head_of p ≢ mirror (last_of p)
ends_apart [] s o e = elim s [ ]
ends_apart (f ∷ []) s o e = mirror_ne f e
ends_apart (f ∷ (g ∷ p)) s o e =
    let h : last_of (g ∷ p) / 2 ≡ f / 2 = sym (mirror_half (last_of (g ∷ p))) ∙ ap (λ (x : ℕ). x / 2) (sym e) in
    omega (
      arith,
      o (f / 2),
      is_of_lem (f / 2) f refl,
      in_times (last_of (g ∷ p)) (g ∷ p) (in_last (g ∷ p) tt),
      ap (λ (x : ℕ). times_of x (g ∷ p)) h,
    )

module _ {K : ℕ} {js : List Join} (p q : List ℕ) {R : List (List ℕ)} (i : State K js (p ∷ (q ∷ R))) where
  abbrev a : ℕ
  a = last_of p

  abbrev b : ℕ
  b = head_of q

  left : Piece js p
  left = i.pieces.0

  right : Piece js q
  right = i.pieces.1.0

  a_in : In a p
  a_in = in_last p left.some

  b_in : In b q
  b_in = in_head q right.some

  back : {f g : ℕ} → mirror f ≡ g → f ≡ mirror g
  back {f} e = sym (mirror-mirror f) ∙ ap mirror e

  new : Link (join_both a b js) a b
  new =
      let rest = join (mirror b) (mirror a) ∷ js in
      let other : mirror b ≢ a = λ e. state_cross i a b a_in b_in (back e) in
      let on = after_not (mirror b) a b rest other ∙ after_yes (mirror b) (mirror b) (mirror a) js refl in
      (after_yes a a b rest refl, on)

  starts_kept : after_in (mirror (head_of p)) (join_both a b js) ≡ 0
  starts_kept =
      let no_a = ends_apart p left.some (λ k. omega (arith, state_most i k)) in
      let no_b = state_differ i (head_of p) b (in_head p left.some) b_in in
      after_same a b js (mirror (head_of p)) (λ e. no_a (back e)) (λ e. no_b (back e ∙ mirror-mirror b)) ∙ left.starts

  ends_kept : after_in (last_of q) (join_both a b js) ≡ 0
  ends_kept =
      let no_a = state_differ i a (last_of q) a_in (in_last q right.some) in
      let no_b = ends_apart q right.some (λ k. omega (arith, state_most i k)) in
      after_same a b js (last_of q) (λ e. no_a (sym e)) (λ e. no_b (back (sym e))) ∙ right.ends

  kept : (r : List ℕ) → Linked js r → Linked (join_both a b js) r
  kept = linked_kept a b js left.ends right.starts

  whole : Piece (join_both a b js) (p ++ q)
  whole =
      let l = kept p left.linked in
      let r = kept q right.linked in
      record {
        some = some_left p q left.some;
        linked = linked_append (join_both a b js) p q left.some right.some l r new;
        starts = ap (λ (x : ℕ). after_in (mirror x) (join_both a b js)) (head_append p q left.some) ∙ starts_kept;
        ends = ap (λ (x : ℕ). after_in x (join_both a b js)) (last_append p q right.some) ∙ ends_kept;
      }

  others : Each (Piece (join_both a b js)) R
  others =
      let no_a : sum (times_of (a / 2)) R ≡ 0 = omega (arith, state_most i (a / 2), in_times a p a_in) in
      let no_b : sum (times_of (b / 2)) R ≡ 0 = omega (arith, state_most i (b / 2), in_times b q b_in) in
      pieces_kept a b js left.ends right.starts R no_a no_b i.pieces.1.1

  pub state_step : State K (join_both a b js) ((p ++ q) ∷ R)
  state_step =
      record { pieces = (whole, others); codes = λ u e. omega (arith, i.codes u e, sum-append u p q) }
