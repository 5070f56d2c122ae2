-- Joins made by the rules, against joins looked up: pieces by the rule are rows of linked faces, two pieces with a face
-- in common are the same, and a join is allowed exactly if the test says so.
-- Joins that were allowed link each face to at most one after it, so that looking one up finds the only one.
use mathlib.Core.Path.{◌≡◌, refl, sym, ap, subst, ◌∙◌}
use mathlib.Core.Logic.{inl, inr, ◌≢◌}
use mathlib.Core.List.{List, [], ◌∷◌}
use Prim.Native.Nat.{ℕ, zero, suc, ◌+◌, ◌*◌, ◌/◌, ◌<◌}
use native.Mathlib.Omega.{arith}
use native.Mathlib.Decide.{ℕ_discrete}
use lib.ListN.{length}
use Rattle.words.specs.Lists.{In}
use Rattle.joins.specs.Faces.{mirror, Join, join_both, head_of, last_of}
use Rattle.joins.specs.Rules.{Joined, Chain, IsPiece, Allowed, Run, start, round}
use Rattle.joins.specs.Rounds.{after_in, end_from_lem}
use Rattle.joins.proofs.Mirrors.{mirror-mirror}
use Rattle.joins.proofs.Pieces.{flip, flip_flip, Some, head_flip, in_head, in_last}
use Rattle.joins.proofs.Links.{after_yes, after_not, Link, Linked, Piece, piece_flip}
use Rattle.joins.proofs.State.{State, state_arr, state_all, state_size, state_differ}
use Rattle.joins.proofs.Allowed.{Open, end_in, Held, held, Pair, open_pair}

-- a run by one rule is a run by another that picks those joins too
pub run_map : {P Q : List Join → ℕ → ℕ → Type 0} {js : List Join}
    → ((ls : List Join) (a b : ℕ) → P ls a b → Q ls a b) → Run P js → Run Q js
run_map f start = start
run_map f (round {js} {a} {b} r p) = round (run_map f r) (f js a b p)

-- looking a join up
after_joined : (f g : ℕ) (js : List Join) → after_in f js ≡ suc g → Joined js f g
after_joined f g [] e = absurd (omega arith)
after_joined f g (j ∷ js) e = go (ℕ_discrete f j.left) (after_joined f g js)
  where
    go : Dec (f ≡ j.left) → (after_in f js ≡ suc g → Joined js f g) → Joined (j ∷ js) f g
    go (yes d) ih = inl (d, omega (arith, after_yes f j.left j.right js d))
    go (no n) ih = inr (ih (sym (after_not f j.left j.right js n) ∙ e))

joined_after : (f g : ℕ) (js : List Join) → Joined js f g → after_in f js ≢ 0
joined_after f g [] x'' z = elim x'' [ ]
joined_after f g (j ∷ js) (inl e) z = omega (arith, after_yes f j.left j.right js e.0)
joined_after f g (j ∷ js) (inr i) z = go (ℕ_discrete f j.left) (joined_after f g js i)
  where
    go : Dec (f ≡ j.left) → after_in f js ≢ 0 → ⊥
    go (yes d) ih = omega (arith, after_yes f j.left j.right js d)
    go (no n) ih = ih (sym (after_not f j.left j.right js n) ∙ z)

none_after : (f : ℕ) (js : List Join) → ((g : ℕ) → Joined js f g → ⊥) → after_in f js ≡ 0
none_after f js h = go (after_in f js) refl
  where
    go : (x : ℕ) → after_in f js ≡ x → after_in f js ≡ 0
    go zero e = e
    go (suc g) e = absurd (h g (after_joined f g js e))

-- Joins that were allowed.
mirror_joined : {P : List Join → ℕ → ℕ → Type 0} {js : List Join} → Run P js → (f g : ℕ) → Joined js f g
    → Joined js (mirror g) (mirror f)
mirror_joined start f g x = absurd x
mirror_joined (round r c) f g (inl e) = inr (inl (ap mirror e.1, ap mirror e.0))
mirror_joined (round {js} {a} {b} r c) f g (inr (inl e)) =
    inl (ap mirror e.1 ∙ mirror-mirror a, ap mirror e.0 ∙ mirror-mirror b)
mirror_joined (round r c) f g (inr (inr x)) = inr (inr (mirror_joined r f g x))

module _ {n : ℕ} where
  -- no face has two after it
  one_after : {js : List Join} → Run (Allowed n) js → (f g h : ℕ) → Joined js f g → Joined js f h → g ≡ h
  one_after start f g h x y = absurd x
  one_after (round {js} {a} {b} r c) f g h x y = go x y (λ u v. one_after r f g h u v)
    where
      no_a : (k : ℕ) → f ≡ a → Joined js f k → ⊥
      no_a k e z = c.pieces.0.ends k (subst (λ (l : ℕ). Joined js l k) (e ∙ sym c.ends_p) z)

      no_b : (k : ℕ) → f ≡ mirror b → Joined js f k → ⊥
      no_b k e z =
          let q = ap mirror e ∙ mirror-mirror b ∙ sym c.begins_q in
          c.pieces.1.starts (mirror k) (subst (Joined js (mirror k)) q (mirror_joined r f k z))

      apart : f ≡ a → f ≡ mirror b → ⊥
      apart d e = c.unmirrored (sym (ap mirror (sym d ∙ e) ∙ mirror-mirror b))

      go : Joined (join_both a b js) f g → Joined (join_both a b js) f h → (Joined js f g → Joined js f h → g ≡ h) → g ≡ h
      go (inl d) (inl e) ih = d.1 ∙ sym e.1
      go (inl d) (inr (inl e)) ih = absurd (apart d.0 e.0)
      go (inl d) (inr (inr z)) ih = absurd (no_a h d.0 z)
      go (inr (inl d)) (inl e) ih = absurd (apart e.0 d.0)
      go (inr (inl d)) (inr (inl e)) ih = d.1 ∙ sym e.1
      go (inr (inl d)) (inr (inr z)) ih = absurd (no_b h d.0 z)
      go (inr (inr z)) (inl e) ih = absurd (no_a g e.0 z)
      go (inr (inr z)) (inr (inl e)) ih = absurd (no_b g e.0 z)
      go (inr (inr y)) (inr (inr z)) ih = ih y z

  module _ {js : List Join} (r : Run (Allowed n) js) where
    joined_link : (f g : ℕ) → Joined js f g → Link js f g
    joined_link f g x = (on f g x, on (mirror g) (mirror f) (mirror_joined r f g x))
      where
        on : (f g : ℕ) → Joined js f g → after_in f js ≡ suc g
        on f g x = go (after_in f js) refl
          where
            go : (y : ℕ) → after_in f js ≡ y → after_in f js ≡ suc g
            go zero e = absurd (joined_after f g js x e)
            go (suc h) e = e ∙ ap suc (one_after r f h g (after_joined f h js e) x)

    -- what is joined to g's mirror is, mirrored, joined to g
    back_joined : (g k : ℕ) → Joined js (mirror g) k → Joined js (mirror k) g
    back_joined g k x = subst (Joined js (mirror k)) (mirror-mirror g) (mirror_joined r (mirror g) k x)

    chain_linked : (p : List ℕ) → Chain js p → Linked js p
    chain_linked [] c = elim c [ ]
    chain_linked (f ∷ []) c = tt
    chain_linked (f ∷ (g ∷ p)) c = (joined_link f g c.0, chain_linked (g ∷ p) c.1)

    chain_some : (p : List ℕ) → Chain js p → Some p
    chain_some [] c = elim c [ ]
    chain_some (f ∷ p) c = tt

    pub piece_of : (p : List ℕ) → IsPiece js p → Piece js p
    piece_of p i =
        record {
          some = chain_some p i.chain;
          linked = chain_linked p i.chain;
          starts = none_after (mirror (head_of p)) js (λ k x. i.starts (mirror k) (back_joined (head_of p) k x));
          ends = none_after (last_of p) js i.ends;
        }

    linked_chain : (p : List ℕ) → Some p → Linked js p → Chain js p
    linked_chain [] s l = elim s [ ]
    linked_chain (f ∷ []) s l = tt
    linked_chain (f ∷ (g ∷ p)) s l = (after_joined f g js l.0.0, linked_chain (g ∷ p) tt l.1)

    pub is_piece : (p : List ℕ) → Piece js p → IsPiece js p
    is_piece p i =
        record {
          chain = linked_chain p i.some i.linked;
          starts = λ f x. joined_after (mirror (head_of p)) (mirror f) js (mirror_joined r f (head_of p) x) i.starts;
          ends = λ g x. joined_after (last_of p) g js x i.ends;
        }

-- two pieces with a face in common are the same
same_linked : (js : List Join) (p q : List ℕ) → Some p → Some q → Linked js p → Linked js q → after_in (last_of p) js ≡ 0
    → after_in (last_of q) js ≡ 0 → head_of p ≡ head_of q → p ≡ q
same_linked js [] q s t r u d e h = elim s [ ]
same_linked js (f ∷ []) [] s t r u d e h = elim t [ ]
same_linked js (f ∷ (k ∷ p)) [] s t r u d e h = elim t [ ]
same_linked js (f ∷ []) (g ∷ []) s t r u d e h = cc
same_linked js (f ∷ []) (g ∷ (k ∷ q)) s t r u d e h = absurd (omega (arith, u.0.0, ap (λ (x : ℕ). after_in x js) h))
same_linked js (f ∷ (k ∷ p)) (g ∷ []) s t r u d e h = absurd (omega (arith, r.0.0, ap (λ (x : ℕ). after_in x js) h))
same_linked js (f ∷ (k ∷ p)) (g ∷ (l ∷ q)) s t r u d e h =
    let n : k ≡ l = omega (arith, r.0.0, u.0.0, ap (λ (x : ℕ). after_in x js) h) in
    let z = same_linked js (k ∷ p) (l ∷ q) tt tt r.1 u.1 d e n in
    cc

pub same_piece : (js : List Join) (p q : List ℕ) (f : ℕ) → Piece js p → Piece js q → In f p → In f q → p ≡ q
same_piece js p q f P Q x y =
    let n = length p + length q in
    let u = end_in js n p f P.linked P.ends (omega arith) x in
    let w = end_in js n q f Q.linked Q.ends (omega arith) y in
    let h = head_flip p P.some ∙ ap mirror (sym u ∙ w) ∙ sym (head_flip q Q.some) in
    let F = piece_flip js p P in
    let G = piece_flip js q Q in
    let z = same_linked js (flip p) (flip q) F.some G.some F.linked G.linked F.ends G.ends h in
    sym (flip_flip p) ∙ ap flip z ∙ flip_flip q

-- The test allows what the rule allows.
module _ {n : ℕ} {js : List Join} {Q : List (List ℕ)} (r : Run (Allowed n) js) (i : State n js Q) where
  pub open_allowed : (a b : ℕ) → a < 2 * n → b < 2 * n → Open n js a b → Allowed n js a b
  open_allowed a b la lb o = from (open_pair n js Q i a b la lb o)
    where
      from : Pair a b Q → Allowed n js a b
      from M =
          let p = M.left_is in
          let q = M.right_is in
          let j = state_arr i M.first in
          let e = in_last p j.pieces.0.some in
          record {
            faces = (la, lb);
            p = p;
            q = q;
            pieces = (is_piece r p j.pieces.0, is_piece r q j.pieces.1.0);
            ends_p = M.last_is;
            begins_q = M.head_is;
            different = λ d. state_differ j (last_of p) (last_of p) e (subst (In (last_of p)) d e) refl;
            unmirrored = o.unmirrored;
          }

  pub allowed_open : (a b : ℕ) → Allowed n js a b → Open n js a b
  allowed_open a b A =
      record {
        ends = ap (λ (x : ℕ). after_in x js) (sym A.ends_p) ∙ P.ends;
        begins = ap (λ (x : ℕ). after_in (mirror x) js) (sym A.begins_q) ∙ S.starts;
        unclosed = λ e. A.different (closed (held b Q (omega (arith, state_all i (b / 2) half))) e);
        unmirrored = A.unmirrored;
      }
    where
      half : b / 2 < n
      half = omega (arith, A.faces.1)

      P : Piece js A.p
      P = piece_of r A.p A.pieces.0

      S : Piece js A.q
      S = piece_of r A.q A.pieces.1

      a_in : In a A.p
      a_in = subst (λ (x : ℕ). In x A.p) A.ends_p (in_last A.p P.some)

      b_in : In b A.q
      b_in = subst (λ (x : ℕ). In x A.q) A.begins_q (in_head A.q S.some)

      -- were a at the end of what b begins, the two pieces would be the one that holds both
      closed : Held b Q → end_from_lem (2 * n) b js ≡ a → A.p ≡ A.q
      closed H e =
          let j = state_arr i H.first in
          let R = j.pieces.0 in
          let l = end_in js (2 * n) H.piece b R.linked R.ends (omega (arith, state_size j)) H.holds in
          let x = subst (λ (y : ℕ). In y H.piece) (sym l ∙ e) (in_last H.piece R.some) in
          same_piece js A.p H.piece a P R a_in x ∙ same_piece js H.piece A.q b R S H.holds b_in
