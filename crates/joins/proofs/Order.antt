-- The order of faces: what is read from the joins is the piece that holds face 0.
use mathlib.Core.Path.{◌≡◌, sym, ap, subst, ◌∙◌}
use mathlib.Core.List.{List, [], ◌∷◌}
use Prim.Native.Nat.{ℕ, zero, suc, ◌-◌, ◌*◌, ◌/◌, ◌≤◌, ◌<◌}
use native.Mathlib.Omega.{arith}
use lib.ListN.{length}
use borrow.Author.Tests.{eq-eqb, ne_eqb}
use Rattle.words.specs.Lists.{In, Each}
use Rattle.words.proofs.Lists.{in_each}
use Rattle.words.proofs.Turning.{by_length}
use Rattle.joins.specs.Faces.{mirror, Join, head_of, last_of}
use Rattle.joins.specs.Rules.{IsPiece, Allowed, Run}
use Rattle.joins.specs.Rounds.{after_in, piece_from, piece_of, layout_of, order_of}
use Rattle.joins.proofs.Mirrors.{mirror-mirror}
use Rattle.joins.proofs.Pieces.{flip, Some, last_flip, in_flip, in_times}
use Rattle.joins.proofs.Links.{Linked, Piece, piece_flip}
use Rattle.joins.proofs.State.{State, state_arr, state_all, state_only, state_size}
use Rattle.joins.proofs.Allowed.{end_in, Held, held}
use Rattle.joins.proofs.Ruled.{is_piece}
use Rattle.joins.proofs.Runs.{all_allowed, reached}
use Rattle.joins.proofs.Rounds.{all_largest, joins_ours}

pub read_stop : (n f : ℕ) (js : List Join) → after_in f js ≡ 0 → piece_from (suc n) f js ≡ f ∷ []
read_stop n f js e = rw (eq-eqb (after_in f js) 0 e, piece_from)

pub read_go : (n f g : ℕ) (js : List Join) → after_in f js ≡ suc g → piece_from (suc n) f js ≡ f ∷ piece_from n g js
read_go n f g js e =
    let some = ne_eqb (after_in f js) 0 (omega arith) in
    let d : piece_from (suc n) f js ≡ f ∷ piece_from n (after_in f js - 1) js = rw (some, piece_from) in
    d ∙ ap (λ (x : ℕ). f ∷ piece_from n x js) (omega arith)

read_linked : (js : List Join) (n : ℕ) (p : List ℕ) → Some p → Linked js p → after_in (last_of p) js ≡ 0 → length p ≤ n
    → piece_from n (head_of p) js ≡ p
read_linked js zero [] s r e h = elim s [ ]
read_linked js (suc n) [] s r e h = elim s [ ]
read_linked js zero (f ∷ p) s r e h = absurd (omega arith)
read_linked js (suc n) (f ∷ []) s r e h = read_stop n f js e
read_linked js (suc n) (f ∷ (g ∷ p)) s r e h =
    read_go n f g js r.0.0 ∙ ap (λ (x : List ℕ). f ∷ x) (read_linked js n (g ∷ p) tt r.1 e (omega arith))

-- back to the start of the piece p by its flip, and on from there
read_piece_lem : (n : ℕ) (js : List Join) (p : List ℕ) → Piece js p → length p ≤ 2 * n → In 0 p → piece_of n js ≡ p
read_piece_lem n js p P l z =
    let F = piece_flip js p P in
    let y = in_flip (mirror 0) p (subst (λ (x : ℕ). In x p) (sym (mirror-mirror 0)) z) in
    let e = end_in js (2 * n) (flip p) (mirror 0) F.linked F.ends (omega (arith, by_length mirror p)) y in
    let s = ap mirror (e ∙ last_flip p P.some) ∙ mirror-mirror (head_of p) in
    ap (λ (x : ℕ). piece_from (2 * n) x js) s ∙ read_linked js (2 * n) p P.some P.linked P.ends l

-- its faces are in range
held_below : {n : ℕ} {js : List Join} {p : List ℕ} {R : List (List ℕ)} → State n js (p ∷ R) → (f : ℕ) → In f p
    → f < 2 * n
held_below {p = p} i f u =
    let t = in_times f p u in
    let h = state_only i (f / 2) (omega arith) in
    omega arith

-- the piece that our joins leave
module _ (n : ℕ) (w : ℕ → ℕ → ℕ) (some : 1 ≤ n) where
  r : Run (Allowed n) (layout_of n w)
  r = all_allowed (all_largest (joins_ours n w).rounds)

  pub record Ordered (p : List ℕ) : Type 0 where
    pub piece : IsPiece (layout_of n w) p
    pub zero_in : In 0 p
    pub short : length p ≤ n
    pub within : Each (λ (f : ℕ). f < 2 * n) p

  ordered : (Q : List (List ℕ)) → State n (layout_of n w) Q → Held 0 Q → Ordered (order_of n w)
  ordered Q i H =
      let j = state_arr i H.first in
      let P = j.pieces.0 in
      let e = read_piece_lem n (layout_of n w) H.piece P (omega (arith, state_size j)) H.holds in
      let short : length H.piece ≤ n = omega (arith, state_size j) in
      let in-range = in_each (λ (f : ℕ). f < 2 * n) H.piece (λ f i. held_below j f i) in
      rw e (record { piece = is_piece r H.piece P; zero_in = H.holds; short = short; within = in-range })

  pub order_piece : Ordered (order_of n w)
  order_piece =
      let R = reached (all_largest (joins_ours n w).rounds) in
      ordered R.pieces R.state (held 0 R.pieces (omega (arith, state_all R.state 0 some)))

-- what may be counted on where the order is a row: it has at most n faces, each below 2n
pub order_short : (n : ℕ) (w : ℕ → ℕ → ℕ) → length (order_of n w) ≤ n
order_short zero w = omega arith
order_short (suc m) w = (order_piece (suc m) w (omega arith)).short

pub order_within : (n : ℕ) (w : ℕ → ℕ → ℕ) → Each (λ (f : ℕ). f < 2 * n) (order_of n w)
order_within zero w = tt
order_within (suc m) w = (order_piece (suc m) w (omega arith)).within
