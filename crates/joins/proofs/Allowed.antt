-- The joins that are allowed are those of two pieces of the state, each as it is or flipped: the face before ends the
-- one, the face after begins the other.
use mathlib.Core.Path.{◌≡◌, refl, sym, ap, subst, ◌∙◌}
use mathlib.Core.Logic.{◌⊎◌, inl, inr, ◌≢◌}
use mathlib.Core.List.{List, [], ◌∷◌}
use Prim.Native.Nat.{ℕ, zero, suc, ◌-◌, ◌*◌, ◌/◌, ◌≤◌, ◌<◌}
use native.Mathlib.Omega.{arith}
use lib.ListN.{length}
use borrow.Author.Tests.{eq-eqb, ne_eqb}
use Rattle.words.specs.Lists.{In}
use Rattle.words.specs.Decides.{Decides}
use Rattle.words.proofs.Deciding.{decides_via, decides_and, decides_not, is_eq}
use Rattle.joins.specs.Faces.{mirror, Join, join, head_of, last_of}
use Rattle.joins.specs.Rounds.{after_in, end_from_lem, allowed}
use Rattle.joins.proofs.Sums.{sum}
use Rattle.joins.proofs.Mirrors.{mirror-mirror}
use Rattle.joins.proofs.Pieces.{flip, Some, last_flip}
use Rattle.joins.proofs.Pieces.{in_head, in_last, in_flip, times_of, in_times, times_in}
use Rattle.joins.proofs.Arrange.{Arr, arr_then, arr_after}
use Rattle.joins.proofs.Links.{Linked, Piece, piece_flip}
use Rattle.joins.proofs.State.{State, state_arr, state_all, state_only, state_size, state_differ, state_cross}

-- the end of the piece that a face is in
pub end_stop : (n f : ℕ) (js : List Join) → after_in f js ≡ 0 → end_from_lem (suc n) f js ≡ f
end_stop n f js e = rw (eq-eqb (after_in f js) 0 e, end_from_lem)

pub end_go : (n f g : ℕ) (js : List Join) → after_in f js ≡ suc g → end_from_lem (suc n) f js ≡ end_from_lem n g js
end_go n f g js e =
    let some = ne_eqb (after_in f js) 0 (omega arith) in
    let d : end_from_lem (suc n) f js ≡ end_from_lem n (after_in f js - 1) js = rw (some, end_from_lem) in
    d ∙ ap (λ (x : ℕ). end_from_lem n x js) (omega arith)

end_head : (js : List Join) (n : ℕ) (p : List ℕ) → Some p → Linked js p → after_in (last_of p) js ≡ 0 → length p ≤ n
    → end_from_lem n (head_of p) js ≡ last_of p
end_head js zero [] s r e h = elim s [ ]
end_head js (suc n) [] s r e h = elim s [ ]
end_head js zero (f ∷ p) s r e h = absurd (omega arith)
end_head js (suc n) (f ∷ []) s r e h = end_stop n f js e
end_head js (suc n) (f ∷ (g ∷ p)) s r e h =
    end_go n f g js r.0.0 ∙ end_head js n (g ∷ p) tt r.1 e (omega arith)

pub end_in : (js : List Join) (n : ℕ) (p : List ℕ) (f : ℕ) → Linked js p → after_in (last_of p) js ≡ 0 → length p ≤ n
    → In f p → end_from_lem n f js ≡ last_of p
end_in js n [] f r e h x4 = elim x4 [ ]
end_in js n (g ∷ []) f r e h (inr i) = elim i [ ]
end_in js n (g ∷ p) f r e h (inl q) = ap (λ (x : ℕ). end_from_lem n x js) q ∙ end_head js n (g ∷ p) tt r e h
end_in js n (g ∷ (k ∷ p)) f r e h (inr i) = end_in js n (k ∷ p) f r.1 e (omega arith) i

-- a face with none after it is the last of its piece, and one with none before it, by the flip, the first
last_in : (js : List Join) (f : ℕ) (p : List ℕ) → Linked js p → after_in f js ≡ 0 → In f p → last_of p ≡ f
last_in js f [] r e x3 = elim x3 [ ]
last_in js f (g ∷ []) r e (inr i) = elim i [ ]
last_in js f (g ∷ []) r e (inl q) = sym q
last_in js f (g ∷ (k ∷ p)) r e (inl q) = absurd (omega (arith, ap (λ (x : ℕ). after_in x js) q, r.0.0))
last_in js f (g ∷ (k ∷ p)) r e (inr i) = last_in js f (k ∷ p) r.1 e i

pub head_in : (js : List Join) (f : ℕ) (p : List ℕ) → Piece js p → after_in (mirror f) js ≡ 0 → In f p → head_of p ≡ f
head_in js f p P e i =
    let F = piece_flip js p P in
    let m : In (mirror f) (flip p) = in_flip (mirror f) p (subst (λ (x : ℕ). In x p) (sym (mirror-mirror f)) i) in
    let l = last_in js (mirror f) (flip p) F.linked e m in
    sym (mirror-mirror (head_of p)) ∙ ap mirror (sym (last_flip p P.some) ∙ l) ∙ mirror-mirror f

-- the test as facts
pub record Open (n : ℕ) (js : List Join) (a b : ℕ) : Type 0 where
  pub ends : after_in a js ≡ 0
  pub begins : after_in (mirror b) js ≡ 0
  pub unclosed : end_from_lem (2 * n) b js ≢ a
  pub unmirrored : b ≢ mirror a

pub is_allowed : (n : ℕ) (js : List Join) (a b : ℕ) → Decides (Open n js a b) (allowed n js (join a b))
is_allowed n js a b =
    decides_via
    (λ h. record { ends = h.0; begins = h.1.0; unclosed = h.1.1.0; unmirrored = h.1.1.1 })
    (λ o. (o.ends, (o.begins, (o.unclosed, o.unmirrored))))
    (decides_and (is_eq (after_in a js) 0)
    (decides_and (is_eq (after_in (mirror b) js) 0)
    (decides_and (decides_not (is_eq (end_from_lem (2 * n) b js) a)) (decides_not (is_eq b (mirror a))))))

-- the piece that holds a face, brought to the front
pub record Held (f : ℕ) (Q : List (List ℕ)) : Type 0 where
  pub piece : List ℕ
  pub rest : List (List ℕ)
  pub first : Arr Q (piece ∷ rest)
  pub holds : In f piece

pub held : (f : ℕ) (Q : List (List ℕ)) → 1 ≤ sum (times_of (f / 2)) Q → Held f Q
held f [] h = absurd (omega arith)
held f (p ∷ Q) h = go (times_of (f / 2) p) refl (held f Q)
  where
    here : In f p ⊎ In (mirror f) p → Held f (p ∷ Q)
    here (inl i) = record { piece = p; rest = Q; first = record { sums = λ v e. refl }; holds = i }
    here (inr i) =
        record { piece = flip p; rest = Q; first = record { sums = λ v e. omega (arith, e p) }; holds = in_flip f p i }

    go : (n : ℕ) → times_of (f / 2) p ≡ n → (1 ≤ sum (times_of (f / 2)) Q → Held f Q) → Held f (p ∷ Q)
    go zero e ih =
        let r = ih (omega arith) in
        let s : Arr (p ∷ Q) (r.piece ∷ (p ∷ r.rest)) = record { sums = λ v e. omega (arith, r.first.sums v e) } in
        record { piece = r.piece; rest = p ∷ r.rest; first = s; holds = r.holds }
    go (suc n) e ih = here (times_in f p (omega arith))

-- two pieces, brought to the front, of which one ends with a and the other begins with b
pub record Pair (a b : ℕ) (Q : List (List ℕ)) : Type 0 where
  pub left_is : List ℕ
  pub right_is : List ℕ
  pub others : List (List ℕ)
  pub first : Arr Q (left_is ∷ (right_is ∷ others))
  pub last_is : last_of left_is ≡ a
  pub head_is : head_of right_is ≡ b

pub open_pair : (n : ℕ) (js : List Join) (Q : List (List ℕ)) → State n js Q → (a b : ℕ) → a < 2 * n → b < 2 * n
    → Open n js a b → Pair a b Q
open_pair n js Q i a b la lb F = go (times_of (b / 2) p) refl
  where
    H : Held a Q
    H = held a Q (omega (arith, state_all i (a / 2) (omega arith)))

    p : List ℕ
    p = H.piece

    j : State n js (p ∷ H.rest)
    j = state_arr i H.first

    P : Piece js p
    P = j.pieces.0

    ends_a : last_of p ≡ a
    ends_a = last_in js a p P.linked F.ends H.holds

    -- b is in no piece that ends with a, as it is or flipped
    clash : In b p ⊎ In (mirror b) p → ⊥
    clash (inl u) = F.unclosed (end_in js (2 * n) p b P.linked P.ends (omega (arith, state_size j)) u ∙ ends_a)
    clash (inr u) =
        let l = last_in js (mirror b) p P.linked F.begins u in
        F.unmirrored (sym (mirror-mirror b) ∙ ap mirror (sym l ∙ ends_a))

    go : (k : ℕ) → times_of (b / 2) p ≡ k → Pair a b Q
    go (suc k) e = absurd (clash (times_in b p (omega arith)))
    go zero e =
        let G = held b H.rest (omega (arith, state_all j (b / 2) (omega arith))) in
        let q = G.piece in
        let r : Arr Q (p ∷ (q ∷ G.rest)) = arr_then H.first (arr_after p G.first) in
        let S : Piece js q = (state_arr i r).pieces.1.0 in
        let starts-b = head_in js b q S F.begins G.holds in
        record { left_is = p; right_is = q; others = G.rest; first = r; last_is = ends_a; head_is = starts-b }

-- and every two pieces can be joined
module _ {n : ℕ} {js : List Join} {p q : List ℕ} {R : List (List ℕ)} (i : State n js (p ∷ (q ∷ R))) where
  pub pair_open : Open n js (last_of p) (head_of q)
  pair_open =
      let P = i.pieces.0 in
      let S = i.pieces.1.0 in
      let a_in = in_last p P.some in
      let b_in = in_head q S.some in
      let end-b = end_in js (2 * n) q (head_of q) S.linked S.ends (omega (arith, state_size i)) b_in in
      record {
        ends = P.ends;
        begins = S.starts;
        unclosed = λ e. state_differ i (last_of p) (last_of q) a_in (in_last q S.some) (sym e ∙ end-b);
        unmirrored = state_cross i (last_of p) (head_of q) a_in b_in;
      }

  pub pair_left : last_of p < 2 * n
  pair_left =
      let t = in_times (last_of p) p (in_last p i.pieces.0.some) in
      let h = state_only i (last_of p / 2) (omega arith) in
      omega arith

  pub pair_right : head_of q < 2 * n
  pair_right =
      let t = in_times (head_of q) q (in_head q i.pieces.1.0.some) in
      let h = state_only i (head_of q / 2) (omega arith) in
      omega arith
