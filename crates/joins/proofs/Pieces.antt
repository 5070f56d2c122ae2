-- Pieces are lists of faces: a piece flipped, the faces at its two ends, the codes that it holds.
use mathlib.Core.Path.{◌≡◌, refl, sym, ap, ◌∙◌}
use mathlib.Core.Bool.{Bool}
use mathlib.Core.Logic.{◌⊎◌, inl, inr, ◌≢◌}
use mathlib.Core.List.{List, [], ◌∷◌, ◌++◌}
use Prim.Native.Nat.{ℕ, ◌/◌, ◌≤◌}
use native.Mathlib.Omega.{arith}
use native.Mathlib.Decide.{ℕ_discrete}
use lib.Dec.{eqb}
use borrow.Author.Tests.{eq-eqb, ne_eqb}
use Rattle.words.specs.Lists.{In}
use Rattle.words.specs.Tests.{pick}
use Rattle.words.specs.Turn.{turned_by}
use Rattle.words.proofs.Lists.{in_left, in_right}
use Rattle.words.proofs.Turning.{by_back}
use Rattle.joins.specs.Faces.{mirror, head_of, last_of}
use Rattle.joins.proofs.Sums.{sum}
use Rattle.joins.proofs.Mirrors.{mirror-mirror, mirror_half, same_half}

-- read from the other end: the mirrors of the faces in reverse order
abbrev pub flip : List ℕ → List ℕ
flip p = turned_by mirror p

pub flip_flip : (p : List ℕ) → flip (flip p) ≡ p
flip_flip p = by_back mirror mirror-mirror p

-- a piece with a face
abbrev pub Some : List ℕ → Type 0
Some [] = ⊥
Some (f ∷ p) = Unit {0}

pub some_left : (p q : List ℕ) → Some p → Some (p ++ q)
some_left [] q s = elim s [ ]
some_left (f ∷ p) q s = tt

some_right : (p q : List ℕ) → Some q → Some (p ++ q)
some_right [] q s = s
some_right (f ∷ p) q s = tt

pub some_flip : (p : List ℕ) → Some p → Some (flip p)
some_flip [] s = elim s [ ]
some_flip (f ∷ p) s = some_right (flip p) (mirror f ∷ []) tt

pub head_append : (p q : List ℕ) → Some p → head_of (p ++ q) ≡ head_of p
head_append [] q s = elim s [ ]
head_append (f ∷ p) q s = refl

pub last_append : (p q : List ℕ) → Some q → last_of (p ++ q) ≡ last_of q
last_append (f ∷ []) [] s = elim s [ ]
last_append [] q s = refl
last_append (f ∷ []) (g ∷ q) s = refl
last_append (f ∷ (h ∷ p)) q s = last_append (h ∷ p) q s

pub head_flip : (p : List ℕ) → Some p → head_of (flip p) ≡ mirror (last_of p)
head_flip [] s = elim s [ ]
head_flip (f ∷ []) s = refl
head_flip (f ∷ (g ∷ p)) s = head_append (flip (g ∷ p)) (mirror f ∷ []) (some_flip (g ∷ p) tt) ∙ head_flip (g ∷ p) tt

pub last_flip : (p : List ℕ) → Some p → last_of (flip p) ≡ mirror (head_of p)
last_flip [] s = elim s [ ]
last_flip (f ∷ p) s = last_append (flip p) (mirror f ∷ []) tt

-- the faces in it
pub in_head : (p : List ℕ) → Some p → In (head_of p) p
in_head [] s = elim s [ ]
in_head (f ∷ p) s = inl refl

pub in_last : (p : List ℕ) → Some p → In (last_of p) p
in_last [] s = elim s [ ]
in_last (f ∷ []) s = inl refl
in_last (f ∷ (g ∷ p)) s = inr (in_last (g ∷ p) tt)

pub in_flip : (f : ℕ) (p : List ℕ) → In (mirror f) p → In f (flip p)
in_flip f [] x' = elim x' [ ]
in_flip f (g ∷ p) (inl e) = in_right f (flip p) (mirror g ∷ []) (inl (sym (mirror-mirror f) ∙ ap mirror e))
in_flip f (g ∷ p) (inr i) = in_left f (flip p) (mirror g ∷ []) (in_flip f p i)

-- how many of its faces are of the code k
abbrev pub is_of : ℕ → ℕ → ℕ
is_of k f = pick (eqb k (f / 2)) 1 0

abbrev pub times_of : ℕ → List ℕ → ℕ
times_of k p = sum (is_of k) p

pub is_of_lem : (k f : ℕ) → k ≡ f / 2 → is_of k f ≡ 1
is_of_lem k f e = ap (λ (t : Bool). pick t 1 0) (eq-eqb k (f / 2) e)

pub not_of : (k f : ℕ) → k ≢ f / 2 → is_of k f ≡ 0
not_of k f n = ap (λ (t : Bool). pick t 1 0) (ne_eqb k (f / 2) n)

pub of_mirror : (k f : ℕ) → is_of k (mirror f) ≡ is_of k f
of_mirror k f = ap (λ (x : ℕ). pick (eqb k x) 1 0) (mirror_half f)

pub in_times : (f : ℕ) (p : List ℕ) → In f p → 1 ≤ times_of (f / 2) p
in_times f [] x' = elim x' [ ]
in_times f (g ∷ p) (inl e) = omega (arith, is_of_lem (f / 2) g (ap (λ (x : ℕ). x / 2) e))
in_times f (g ∷ p) (inr i) = omega (arith, in_times f p i)

pub times_in : (f : ℕ) (p : List ℕ) → 1 ≤ times_of (f / 2) p → In f p ⊎ In (mirror f) p
times_in f [] h = absurd (omega arith)
times_in f (g ∷ p) h = go (ℕ_discrete (f / 2) (g / 2)) (times_in f p)
  where
    here : (f ≡ g) ⊎ (mirror f ≡ g) → In f (g ∷ p) ⊎ In (mirror f) (g ∷ p)
    here (inl e) = inl (inl e)
    here (inr e) = inr (inl e)

    later : In f p ⊎ In (mirror f) p → In f (g ∷ p) ⊎ In (mirror f) (g ∷ p)
    later (inl i) = inl (inr i)
    later (inr i) = inr (inr i)

    go : Dec (f / 2 ≡ g / 2) → (1 ≤ times_of (f / 2) p → In f p ⊎ In (mirror f) p)
        → In f (g ∷ p) ⊎ In (mirror f) (g ∷ p)
    go (yes e) ih = here (same_half f g e)
    go (no n) ih = later (ih (omega (arith, not_of (f / 2) g n)))
