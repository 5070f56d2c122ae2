-- What a list of joins says, looked up: which face is linked to which, and the pieces, rows of linked faces open at both
-- ends. A link counts with its mirror, so a piece flipped is a piece too.
use mathlib.Core.Path.{◌≡◌, sym, ap, ◌∙◌}
use mathlib.Core.Logic.{◌≢◌}
use mathlib.Core.List.{List, [], ◌∷◌, ◌++◌}
use Prim.Native.Nat.{ℕ, suc}
use borrow.Author.Tests.{eq-eqb, ne_eqb}
use Rattle.joins.specs.Faces.{mirror, Join, join, head_of, last_of}
use Rattle.joins.specs.Rounds.{after_in}
use Rattle.joins.proofs.Mirrors.{mirror-mirror}
use Rattle.joins.proofs.Pieces.{flip, Some, some_flip, head_flip, last_flip}

pub after_yes : (f a b : ℕ) (js : List Join) → f ≡ a → after_in f (join a b ∷ js) ≡ suc b
after_yes f a b js e = rw (eq-eqb f a e, after_in)

pub after_not : (f a b : ℕ) (js : List Join) → f ≢ a → after_in f (join a b ∷ js) ≡ after_in f js
after_not f a b js n = rw (ne_eqb f a n, after_in)

-- f is linked to g, and g's mirror to f's mirror
abbrev pub Link : List Join → ℕ → ℕ → Type 0
Link js f g = (after_in f js ≡ suc g) × (after_in (mirror g) js ≡ suc (mirror f))

link_mirror : (js : List Join) (f g : ℕ) → Link js f g → Link js (mirror g) (mirror f)
link_mirror js f g l =
    (l.1, ap (λ (x : ℕ). after_in x js) (mirror-mirror f) ∙ l.0 ∙ ap suc (sym (mirror-mirror g)))

-- rows of linked faces
abbrev pub Linked : List Join → List ℕ → Type 0
Linked js [] = Unit {0}
Linked js (f ∷ []) = Unit {0}
Linked js (f ∷ (g ∷ p)) = Link js f g × Linked js (g ∷ p)

pub linked_append : (js : List Join) (p q : List ℕ) → Some p → Some q → Linked js p → Linked js q
    → Link js (last_of p) (head_of q) → Linked js (p ++ q)
linked_append js [] q s t r u l = elim s [ ]
linked_append js (f ∷ []) [] s t r u l = elim t [ ]
linked_append js (f ∷ []) (g ∷ q) s t r u l = (l, u)
linked_append js (f ∷ (h ∷ p)) q s t r u l = (r.0, linked_append js (h ∷ p) q tt t r.1 u l)

linked_flip : (js : List Join) (p : List ℕ) → Linked js p → Linked js (flip p)
linked_flip js [] r = tt
linked_flip js (f ∷ []) r = tt
linked_flip js (f ∷ (g ∷ p)) r =
    let q = flip (g ∷ p) in
    let l : Link js (last_of q) (mirror f) = rw (last_flip (g ∷ p) tt) (link_mirror js f g r.0) in
    linked_append js q (mirror f ∷ []) (some_flip (g ∷ p) tt) tt (linked_flip js (g ∷ p) r.1) tt l

-- a piece: no face comes after its last, and none before its first, which is after the mirror of that
pub record Piece (js : List Join) (p : List ℕ) : Type 0 where
  pub some : Some p
  pub linked : Linked js p
  pub starts : after_in (mirror (head_of p)) js ≡ 0
  pub ends : after_in (last_of p) js ≡ 0

pub piece_flip : (js : List Join) (p : List ℕ) → Piece js p → Piece js (flip p)
piece_flip js p h =
    record {
      some = some_flip p h.some;
      linked = linked_flip js p h.linked;
      starts =
          let e = ap mirror (head_flip p h.some) ∙ mirror-mirror (last_of p) in
          ap (λ (x : ℕ). after_in x js) e ∙ h.ends;
      ends = ap (λ (x : ℕ). after_in x js) (last_flip p h.some) ∙ h.starts;
    }
