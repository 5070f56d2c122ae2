-- Greedy runs keep at least half. A greedy run joins, in each round, two pieces whose junction weighs no less than any
-- other that could be made, till one piece is left; nothing is said of how ties are settled.
-- By the exchange lemma each round costs a rival arrangement at most twice what the round makes.
use mathlib.Core.Path.{◌≡◌, refl, sym, ap, ◌∙◌}
use mathlib.Core.List.{List, [], ◌∷◌, ◌++◌, append_assoc, map}
use Prim.Native.Nat.{ℕ, ◌+◌, ◌*◌, ◌≤◌}
use native.Mathlib.Omega.{arith}
use lib.ListN.{length}
use Rattle.joins.specs.Faces.{mirror}
use Rattle.joins.specs.Rules.{along}
use Rattle.joins.proofs.Sums.{sum, sum-append}
use Rattle.joins.proofs.Pieces.{flip, Some, some_flip, last_flip}
use Rattle.joins.proofs.Arrange.{Arr, arr_back, arr_then, arr_length}
use Rattle.joins.proofs.Junctions.{Even, Monge, meet, meet_none, meet_some, weigh, junctions, above}
use Rattle.joins.proofs.Exchange.{exchange}

-- no two pieces that can be neighbours weigh more than n
abbrev pub Top : (ℕ → ℕ → ℕ) → ℕ → List (List ℕ) → Type 0
Top w n Q = (x y : List ℕ) (R : List (List ℕ)) → Arr Q (x ∷ (y ∷ R)) → meet w x y ≤ n

-- from the pieces Q to the one piece r
pub data Greedy (w : ℕ → ℕ → ℕ) : List (List ℕ) → List ℕ → Type 0 where
  done : {r : List ℕ} → Greedy w (r ∷ []) r
  step : {Q R : List (List ℕ)} {p q r : List ℕ} → Some p → Some q → Arr Q (p ∷ (q ∷ R)) → Top w (meet w p q) Q
      → Greedy w ((p ++ q) ∷ R) r → Greedy w Q r

-- the junctions within a piece: of two parts, and flipped
along_append : (w : ℕ → ℕ → ℕ) (p q : List ℕ) → Some p → Some q
    → along w (p ++ q) ≡ along w p + (meet w p q + along w q)
along_append w [] q s t = elim s [ ]
along_append w (f ∷ []) [] s t = elim t [ ]
along_append w (f ∷ (h ∷ p)) [] s t = elim t [ ]
along_append w (f ∷ []) (g ∷ q) s t = omega arith
along_append w (f ∷ (h ∷ p)) (g ∷ q) s t = omega (arith, along_append w (h ∷ p) (g ∷ q) tt tt)

pub along_flip : (w : ℕ → ℕ → ℕ) → Even w → (p : List ℕ) → along w (flip p) ≡ along w p
along_flip w m [] = refl
along_flip w m (f ∷ []) = refl
along_flip w m (f ∷ (g ∷ p)) =
    let s = some_flip (g ∷ p) tt in
    let e = meet_some w (flip (g ∷ p)) (mirror f ∷ []) s tt in
    let j = e ∙ ap (λ (x : ℕ). w x (mirror f)) (last_flip (g ∷ p) tt) ∙ m f g in
    omega (arith, along_append w (flip (g ∷ p)) (mirror f ∷ []) s tt, along_flip w m (g ∷ p))

-- an order of faces, each a piece by itself
abbrev pub alone : List ℕ → List (List ℕ)
alone fs = map (λ (f : ℕ). f ∷ []) fs

pub alone_along : (w : ℕ → ℕ → ℕ) (fs : List ℕ) → junctions w (alone fs) ≡ along w fs
alone_along w [] = refl
alone_along w (f ∷ []) = refl
alone_along w (f ∷ (g ∷ fs)) = omega (arith, alone_along w (g ∷ fs))

pub alone_sum : (u : ℕ → ℕ) (fs : List ℕ) → sum (sum u) (alone fs) ≡ sum u fs
alone_sum u [] = refl
alone_sum u (f ∷ fs) = omega (arith, alone_sum u fs)

-- an arrangement has no junction heavier than the top one
top_light : (w : ℕ → ℕ → ℕ) (n : ℕ) (Q X : List (List ℕ)) (x : List ℕ) (A : List (List ℕ)) → Top w n Q
    → Arr Q (X ++ (x ∷ A)) → weigh (above w n) x A [] ≡ 0
top_light w n Q X x [] t r = omega (arith, meet_none w x)
top_light w n Q X x (y ∷ A) t r =
    omega (arith, t x y (X ++ A) fronted, top_light w n Q (X ++ (x ∷ [])) y A t (rw append_assoc r))
  where
    fronted : Arr Q (x ∷ (y ∷ (X ++ A)))
    fronted = record { sums = λ v e. omega (arith, r.sums v e, sum-append v X (x ∷ (y ∷ A)), sum-append v X A) }

light : (w : ℕ → ℕ → ℕ) (n : ℕ) (Q A : List (List ℕ)) → Top w n Q → Arr Q A → weigh (above w n) [] A [] ≡ 0
light w n Q [] t r = omega arith
light w n Q (x ∷ A) t r = omega (arith, top_light w n Q [] x A t r)

one_piece : (w : ℕ → ℕ → ℕ) (A : List (List ℕ)) → length A ≡ 1 → junctions w A ≡ 0
one_piece w (x ∷ []) h = omega (arith, meet_none w x)
one_piece w [] h = absurd (omega arith)
one_piece w (x ∷ (y ∷ A)) h = absurd (omega arith)

-- no arrangement has junctions that weigh more than twice what the run adds to those within its pieces
pub greedy_half : {w : ℕ → ℕ → ℕ} {Q : List (List ℕ)} {r : List ℕ} → Even w → Monge w → Greedy w Q r
    → (A : List (List ℕ)) → Arr Q A → junctions w A + 2 * sum (along w) Q ≤ 2 * along w r
greedy_half {w} mi mg (done {r = r}) A a = omega (arith, one_piece w A (sym (arr_length a)))
greedy_half {w} {Q} mi mg (step {R = R} {p = p} {q = q} sp sq s t g) A a =
    let n = exchange w mi mg p q sp sq R A (arr_then (arr_back s) a) (light w (meet w p q) Q A t a) in
    omega (
      arith,
      n.close,
      greedy_half mi mg g n.to n.arranged,
      along_append w p q sp sq,
      s.sums (along w) (along_flip w mi),
    )
