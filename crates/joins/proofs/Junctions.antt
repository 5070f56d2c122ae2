-- The weight of the junctions in a row of pieces: taken apart where the row is cut, and the same the other way round.
-- A missing piece, [], weighs nothing with any other, so that a cut is a row that ends in [].
use mathlib.Core.Path.{◌≡◌, refl, sym, ap}
use mathlib.Core.List.{List, [], ◌∷◌, ◌++◌}
use Prim.Native.Nat.{ℕ, ◌+◌, ◌-◌, ◌*◌, ◌≤◌}
use native.Mathlib.Omega.{arith}
use Rattle.words.specs.Turn.{turned_by}
use Rattle.joins.specs.Faces.{mirror, head_of, last_of}
use Rattle.joins.proofs.Pieces.{flip, flip_flip, last_append}
use Rattle.joins.proofs.Pieces.{Some, some_flip, head_flip, last_flip}

-- a weight of two faces in a row, the same for their mirrors the other way round
abbrev pub Even : (ℕ → ℕ → ℕ) → Type 0
Even w = (f g : ℕ) → w (mirror g) (mirror f) ≡ w f g

-- and by which two crossed pairs weigh no more than two straight ones of which one is the heaviest
abbrev pub Monge : (ℕ → ℕ → ℕ) → Type 0
Monge w = (a b c d : ℕ) → w a d ≤ w a c → w b c ≤ w a c → w a d + w b c ≤ w a c + w b d

-- the junction of two pieces; nothing where there is no piece
abbrev pub meet : (ℕ → ℕ → ℕ) → List ℕ → List ℕ → ℕ
meet w [] y = 0
meet w (a ∷ x) [] = 0
meet w (a ∷ x) (b ∷ y) = w (last_of (a ∷ x)) b

pub meet_none : (w : ℕ → ℕ → ℕ) (x : List ℕ) → meet w x [] ≡ 0
meet_none w [] = refl
meet_none w (a ∷ x) = refl

pub meet_some : (w : ℕ → ℕ → ℕ) (x y : List ℕ) → Some x → Some y → meet w x y ≡ w (last_of x) (head_of y)
meet_some w [] y s t = elim s [ ]
meet_some w (a ∷ x) [] s t = elim t [ ]
meet_some w (a ∷ x) (b ∷ y) s t = refl

pub meet_flip : (w : ℕ → ℕ → ℕ) → Even w → (x y : List ℕ) → meet w x y ≡ meet w (flip y) (flip x)
meet_flip w m [] y = sym (meet_none w (flip y))
meet_flip w m (a ∷ x) [] = refl
meet_flip w m (a ∷ x) (b ∷ y) =
    let e = meet_some w (flip (b ∷ y)) (flip (a ∷ x)) (some_flip (b ∷ y) tt) (some_flip (a ∷ x) tt) in
    sym (rw (e, last_flip (b ∷ y) tt, head_flip (a ∷ x) tt) (m (last_of (a ∷ x)) b))

pub meet_before : (w : ℕ → ℕ → ℕ) (p q : List ℕ) → Some p → (x : List ℕ) → meet w x (p ++ q) ≡ meet w x p
meet_before w [] q s _ = elim s [ ]
meet_before w (a ∷ p) q s [] = refl
meet_before w (a ∷ p) q s (b ∷ x) = refl

pub meet_after : (w : ℕ → ℕ → ℕ) (p q : List ℕ) → Some p → Some q → (y : List ℕ) → meet w (p ++ q) y ≡ meet w q y
meet_after w [] q s t y = elim s [ ]
meet_after w (a ∷ p) [] s t y = elim t [ ]
meet_after w (a ∷ p) (b ∷ q) s t [] = refl
meet_after w (a ∷ p) (b ∷ q) s t (c ∷ y) = ap (λ (k : ℕ). w k c) (last_append (a ∷ p) (b ∷ q) tt)

pub meet_monge : (w : ℕ → ℕ → ℕ) → Monge w → (p q : List ℕ) → Some p → Some q → (x z : List ℕ)
    → meet w p z ≤ meet w p q → meet w x q ≤ meet w p q → meet w p z + meet w x q ≤ meet w p q + meet w x z
meet_monge w mg [] q s t _ z h k = elim s [ ]
meet_monge w mg (a ∷ p) [] s t _ z h k = elim t [ ]
meet_monge w mg (a ∷ p) (b ∷ q) s t [] [] h k = omega arith
meet_monge w mg (a ∷ p) (b ∷ q) s t [] (d ∷ z) h k = omega arith
meet_monge w mg (a ∷ p) (b ∷ q) s t (c ∷ x) [] h k = omega arith
meet_monge w mg (a ∷ p) (b ∷ q) s t (c ∷ x) (d ∷ z) h k = mg (last_of (a ∷ p)) (last_of (c ∷ x)) b d h k

-- the junctions, by j, of l, then A, then r
abbrev pub weigh : (List ℕ → List ℕ → ℕ) → List ℕ → List (List ℕ) → List ℕ → ℕ
weigh j l [] r = j l r
weigh j l (a ∷ A) r = j l a + weigh j a A r

abbrev pub junctions : (ℕ → ℕ → ℕ) → List (List ℕ) → ℕ
junctions w A = weigh (meet w) [] A []

-- what junctions weigh above n
abbrev pub above : (ℕ → ℕ → ℕ) → ℕ → List ℕ → List ℕ → ℕ
above w n x y = meet w x y - n

module _ (j : List ℕ → List ℕ → ℕ) where
  pub weigh_append : (l : List ℕ) (X : List (List ℕ)) (m : List ℕ) (Y : List (List ℕ)) (r : List ℕ)
      → weigh j l (X ++ (m ∷ Y)) r ≡ weigh j l X m + weigh j m Y r
  weigh_append l [] m Y r = refl
  weigh_append l (a ∷ X) m Y r = omega (arith, weigh_append a X m Y r)

  pub weigh_left : (l l' : List ℕ) → ((y : List ℕ) → j l y ≡ j l' y) → (A : List (List ℕ)) (r : List ℕ)
      → weigh j l A r ≡ weigh j l' A r
  weigh_left l l' h [] r = h r
  weigh_left l l' h (a ∷ A) r = omega (arith, h a)

  pub weigh_right : (r r' : List ℕ) → ((x : List ℕ) → j x r ≡ j x r') → (l : List ℕ) (A : List (List ℕ))
      → weigh j l A r ≡ weigh j l A r'
  weigh_right r r' h l [] = h l
  weigh_right r r' h l (a ∷ A) = omega (arith, weigh_right r r' h a A)

  -- the other way round
  module _ (even : (x y : List ℕ) → j x y ≡ j (flip y) (flip x)) where
    pub weigh_turn : (l : List ℕ) (A : List (List ℕ)) (r : List ℕ)
        → weigh j l A r ≡ weigh j (flip r) (turned_by flip A) (flip l)
    weigh_turn l [] r = even l r
    weigh_turn l (a ∷ A) r =
        omega (arith, even l a, weigh_turn a A r, weigh_append (flip r) (turned_by flip A) (flip a) [] (flip l))

    pub weigh_over : (l : List ℕ) (A : List (List ℕ)) (r : List ℕ)
        → weigh j l A (flip r) ≡ weigh j r (turned_by flip A) (flip l)
    weigh_over l A r = rw flip_flip at (weigh_turn l A (flip r))

module _ (w : ℕ → ℕ → ℕ) where
  -- a cut loses one junction
  pub weigh_cut : (l : List ℕ) (Z M : List (List ℕ)) (r : List ℕ)
      → weigh (meet w) l Z [] + weigh (meet w) [] M r ≤ weigh (meet w) l (Z ++ M) r
  weigh_cut l [] [] r = omega (arith, meet_none w l)
  weigh_cut l [] (a ∷ M) r = omega (arith, meet_none w l)
  weigh_cut l (z ∷ Z) M r = omega (arith, weigh_cut z Z M r)

  pub cut_left : (n : ℕ) (l : List ℕ) (M : List (List ℕ)) (r : List ℕ) → weigh (above w n) l M r ≡ 0
      → weigh (meet w) l M r ≤ weigh (meet w) [] M r + n
  cut_left n l [] r h = omega arith
  cut_left n l (a ∷ M) r h = omega arith

  pub cut_right : (n : ℕ) (l : List ℕ) (M : List (List ℕ)) (r : List ℕ) → weigh (above w n) l M r ≡ 0
      → weigh (meet w) l M r ≤ weigh (meet w) l M [] + n
  cut_right n l [] r h = omega arith
  cut_right n l (a ∷ M) r h = omega (arith, cut_right n a M r (omega arith))

  pub cut_both : (n : ℕ) (l : List ℕ) (M : List (List ℕ)) (r : List ℕ) → weigh (above w n) l M r ≡ 0
      → weigh (meet w) l M r ≤ weigh (meet w) [] M [] + 2 * n
  cut_both n l [] r h = omega arith
  cut_both n l (a ∷ M) r h = omega (arith, cut_right n a M r (omega arith))
