-- The exchange lemma: if no junction of an arrangement weighs more than that of p before q, then some arrangement in
-- which p and q are one piece p ++ q weighs less by at most twice that junction.
-- Turn the arrangement so that p stands in it as it is. Then q stands after p or before p, as it is or flipped:
-- four cases, in each of which p ++ q takes the place of p or q and the parts that were cut off are put elsewhere.
use mathlib.Core.Path.{◌≡◌, sym, ap, ◌∙◌}
use mathlib.Core.Logic.{◌⊎◌, inl, inr}
use mathlib.Core.List.{List, [], ◌∷◌, ◌++◌, append_assoc}
use Prim.Native.Nat.{ℕ, zero, suc, ◌+◌, ◌*◌, ◌≤◌}
use native.Mathlib.Omega.{arith}
use Rattle.words.specs.Turn.{turned_by}
use Rattle.words.proofs.Turning.{by_parts}
use Rattle.joins.proofs.Sums.{sum, sum-append, sum-turned}
use Rattle.joins.proofs.Pieces.{flip, flip_flip, Some}
use Rattle.joins.proofs.Arrange.{Arr, arr_then, Found, asis, over, alike, alike_flip, alike_self, find}
use Rattle.joins.proofs.Junctions.{Even, Monge, meet, meet_flip, meet_before, meet_after, meet_monge}
use Rattle.joins.proofs.Junctions.{weigh, junctions, above, weigh_append, weigh_left, weigh_right}
use Rattle.joins.proofs.Junctions.{weigh_turn, weigh_over, weigh_cut, cut_left, cut_right, cut_both}

-- an arrangement of Q that weighs at most c less than A
pub record Near (w : ℕ → ℕ → ℕ) (c : ℕ) (Q A : List (List ℕ)) : Type 0 where
  pub to : List (List ℕ)
  pub arranged : Arr Q to
  pub close : junctions w A ≤ junctions w to + c

some_of : (a b : ℕ) → 1 ≤ a + b → (1 ≤ a) ⊎ (1 ≤ b)
some_of zero b h = inr (omega arith)
some_of (suc a) b h = inl (omega arith)

-- what junctions weigh above that of p before q
abbrev beyond : (ℕ → ℕ → ℕ) → List ℕ → List ℕ → List ℕ → List ℕ → ℕ
beyond w p q = above w (meet w p q)

-- p ++ q is p to what comes before it, and q to what comes after
module _ (w : ℕ → ℕ → ℕ) (p q : List ℕ) (sp : Some p) where
  like_p : (X : List (List ℕ)) → weigh (meet w) [] X (p ++ q) ≡ weigh (meet w) [] X p
  like_p X = weigh_right (meet w) (p ++ q) p (meet_before w p q sp) [] X

  like_q : Some q → (Z : List (List ℕ)) → weigh (meet w) (p ++ q) Z [] ≡ weigh (meet w) q Z []
  like_q sq Z = weigh_left (meet w) (p ++ q) q (meet_after w p q sp sq) Z []

-- With no piece flipped, the inequality of four faces is enough.
module _ (w : ℕ → ℕ → ℕ) (mg : Monge w) (p q : List ℕ) (sp : Some p) (sq : Some q) where
  -- X, p, M, q, Z becomes X, pq, Z, M: the two ends of M are cut off
  pub straight_after : (X M Z : List (List ℕ)) → weigh (beyond w p q) [] (X ++ (p ∷ (M ++ (q ∷ Z)))) [] ≡ 0
      → junctions w (X ++ (p ∷ (M ++ (q ∷ Z)))) ≤ junctions w (X ++ ((p ++ q) ∷ (Z ++ M))) + 2 * meet w p q
  straight_after X M Z h =
      let o₁ = weigh_append (beyond w p q) [] X p (M ++ (q ∷ Z)) [] in
      let o₂ = weigh_append (beyond w p q) p M q Z [] in
      omega (
        arith,
        weigh_append (meet w) [] X p (M ++ (q ∷ Z)) [],
        weigh_append (meet w) p M q Z [],
        weigh_append (meet w) [] X (p ++ q) (Z ++ M) [],
        like_p w p q sp X,
        like_q w p q sp sq (Z ++ M),
        cut_both w (meet w p q) p M q (omega arith),
        weigh_cut w q Z M [],
      )

  -- X joined to Z instead of X to q and p to Z
  crossed : (l : List ℕ) (X Z : List (List ℕ)) (r : List ℕ) → weigh (beyond w p q) l X q ≡ 0
      → weigh (beyond w p q) p Z r ≡ 0
      → weigh (meet w) l X q + weigh (meet w) p Z r ≤ weigh (meet w) l (X ++ Z) r + meet w p q
  crossed l [] [] r hx hz = omega (arith, meet_monge w mg p q sp sq l r (omega arith) (omega arith))
  crossed l [] (z ∷ Z) r hx hz = omega (arith, meet_monge w mg p q sp sq l z (omega arith) (omega arith))
  crossed l (x ∷ X) Z r hx hz = omega (arith, crossed x X Z r (omega arith) hz)

  -- X, q, M, p, Z becomes X, Z, M, pq: X is joined to Z, and M cut off from q
  pub straight_before : (X M Z : List (List ℕ)) → weigh (beyond w p q) [] ((X ++ (q ∷ M)) ++ (p ∷ Z)) [] ≡ 0
      → junctions w ((X ++ (q ∷ M)) ++ (p ∷ Z)) ≤ junctions w ((X ++ Z) ++ (M ++ ((p ++ q) ∷ []))) + 2 * meet w p q
  straight_before X M Z h =
      let o₁ = weigh_append (beyond w p q) [] (X ++ (q ∷ M)) p Z [] in
      let o₂ = weigh_append (beyond w p q) [] X q M p in
      omega (
        arith,
        weigh_append (meet w) [] (X ++ (q ∷ M)) p Z [],
        weigh_append (meet w) [] X q M p,
        weigh_append (meet w) [] M (p ++ q) [] [],
        like_p w p q sp M,
        cut_left w (meet w p q) q M p (omega arith),
        crossed [] X Z [] (omega arith) (omega arith),
        weigh_cut w [] (X ++ Z) (M ++ ((p ++ q) ∷ [])) [],
      )

module _ (w : ℕ → ℕ → ℕ) (mi : Even w) (mg : Monge w)
    (p q : List ℕ) (sp : Some p) (sq : Some q) (Q : List (List ℕ)) where
  abbrev Answer : List (List ℕ) → Type 0
  Answer A = Arr (p ∷ (q ∷ Q)) A → weigh (beyond w p q) [] A [] ≡ 0 → Near w (2 * meet w p q) ((p ++ q) ∷ Q) A

  beyond_even : (x y : List ℕ) → beyond w p q x y ≡ beyond w p q (flip y) (flip x)
  beyond_even x y = omega (arith, meet_flip w mi x y)

  after_asis : (X M Z : List (List ℕ)) → Answer (X ++ (p ∷ (M ++ (q ∷ Z))))
  after_asis X M Z a h =
      record {
        to = X ++ ((p ++ q) ∷ (Z ++ M));
        arranged = record {
          sums = λ v e. omega (
            arith,
            a.sums v e,
            sum-append v X (p ∷ (M ++ (q ∷ Z))),
            sum-append v M (q ∷ Z),
            sum-append v X ((p ++ q) ∷ (Z ++ M)),
            sum-append v Z M,
          );
        };
        close = straight_after w mg p q sp sq X M Z h;
      }

  before_asis : (X M Z : List (List ℕ)) → Answer ((X ++ (q ∷ M)) ++ (p ∷ Z))
  before_asis X M Z a h =
      record {
        to = (X ++ Z) ++ (M ++ ((p ++ q) ∷ []));
        arranged = record {
          sums = λ v e. omega (
            arith,
            a.sums v e,
            sum-append v (X ++ (q ∷ M)) (p ∷ Z),
            sum-append v X (q ∷ M),
            sum-append v (X ++ Z) (M ++ ((p ++ q) ∷ [])),
            sum-append v X Z,
            sum-append v M ((p ++ q) ∷ []),
          );
        };
        close = straight_before w mg p q sp sq X M Z h;
      }

  -- X, p, M, q flipped, Z becomes X, pq, M turned round, Z
  after_over : (X M Z : List (List ℕ)) → Answer (X ++ (p ∷ (M ++ (flip q ∷ Z))))
  after_over X M Z a h =
      let o₁ = weigh_append (beyond w p q) [] X p (M ++ (flip q ∷ Z)) [] in
      let o₂ = weigh_append (beyond w p q) p M (flip q) Z [] in
      let o₃ = weigh_over (beyond w p q) beyond_even p M q in
      record {
        to = X ++ ((p ++ q) ∷ (turned_by flip M ++ Z));
        arranged = record {
          sums = λ v e. omega (
            arith,
            a.sums v e,
            e q,
            sum-append v X (p ∷ (M ++ (flip q ∷ Z))),
            sum-append v M (flip q ∷ Z),
            sum-append v X ((p ++ q) ∷ (turned_by flip M ++ Z)),
            sum-append v (turned_by flip M) Z,
            sum-turned v flip e M,
          );
        };
        close = omega (
          arith,
          weigh_append (meet w) [] X p (M ++ (flip q ∷ Z)) [],
          weigh_append (meet w) p M (flip q) Z [],
          weigh_over (meet w) (meet_flip w mi) p M q,
          weigh_append (meet w) [] X (p ++ q) (turned_by flip M ++ Z) [],
          like_p w p q sp X,
          like_q w p q sp sq (turned_by flip M ++ Z),
          cut_right w (meet w p q) q (turned_by flip M) (flip p) (omega arith),
          cut_left w (meet w p q) (flip q) Z [] (omega arith),
          weigh_cut w q (turned_by flip M) Z [],
        );
      }

  -- X, q flipped, M, p, Z becomes M, pq, X turned round, Z
  before_over : (X M Z : List (List ℕ)) → Answer ((X ++ (flip q ∷ M)) ++ (p ∷ Z))
  before_over X M Z a h =
      let o₁ = weigh_append (beyond w p q) [] (X ++ (flip q ∷ M)) p Z [] in
      let o₂ = weigh_append (beyond w p q) [] X (flip q) M p in
      record {
        to = M ++ ((p ++ q) ∷ (turned_by flip X ++ Z));
        arranged = record {
          sums = λ v e. omega (
            arith,
            a.sums v e,
            e q,
            sum-append v (X ++ (flip q ∷ M)) (p ∷ Z),
            sum-append v X (flip q ∷ M),
            sum-append v M ((p ++ q) ∷ (turned_by flip X ++ Z)),
            sum-append v (turned_by flip X) Z,
            sum-turned v flip e X,
          );
        };
        close = omega (
          arith,
          weigh_append (meet w) [] (X ++ (flip q ∷ M)) p Z [],
          weigh_append (meet w) [] X (flip q) M p,
          weigh_over (meet w) (meet_flip w mi) [] X q,
          weigh_append (meet w) [] M (p ++ q) (turned_by flip X ++ Z) [],
          like_p w p q sp M,
          like_q w p q sp sq (turned_by flip X ++ Z),
          cut_left w (meet w p q) (flip q) M p (omega arith),
          cut_left w (meet w p q) p Z [] (omega arith),
          weigh_cut w q (turned_by flip X) Z [],
        );
      }

  before : (X Z : List (List ℕ)) → Found q X → Answer (X ++ (p ∷ Z))
  before X Z (asis X' M) = before_asis X' M Z
  before X Z (over X' M) = before_over X' M Z

  after : (X Y : List (List ℕ)) → Found q Y → Answer (X ++ (p ∷ Y))
  after X Y (asis M Z) = after_asis X M Z
  after X Y (over M Z) = after_over X M Z

  around : (X Y : List (List ℕ)) → Answer (X ++ (p ∷ Y))
  around X Y a h = go (some_of (sum (alike q) X) (sum (alike q) Y) there)
    where
      there : 1 ≤ sum (alike q) X + sum (alike q) Y
      there = omega (arith, a.sums (alike q) (alike_flip q), sum-append (alike q) X (p ∷ Y), alike_self q)

      go : (1 ≤ sum (alike q) X) ⊎ (1 ≤ sum (alike q) Y) → Near w (2 * meet w p q) ((p ++ q) ∷ Q) (X ++ (p ∷ Y))
      go (inl u) = before X Y (find q X u) a h
      go (inr u) = after X Y (find q Y u) a h

  -- the arrangement the other way round, in which p stands as it is
  turned_at : (X Y : List (List ℕ)) → turned_by flip (X ++ (flip p ∷ Y)) ≡ turned_by flip Y ++ (p ∷ turned_by flip X)
  turned_at X Y =
      let e = append_assoc (turned_by flip Y) (flip (flip p) ∷ []) (turned_by flip X) in
      rw flip_flip at (by_parts flip X (flip p ∷ Y) ∙ e)

  exchange_at : (A : List (List ℕ)) → Found p A → Answer A
  exchange_at A (asis X Y) a h = around X Y a h
  exchange_at A (over X Y) a h =
      let t = turned_at X Y in
      let A' = turned_by flip Y ++ (p ∷ turned_by flip X) in
      let u : junctions w A ≡ junctions w A' = rw t at (weigh_turn (meet w) (meet_flip w mi) [] A []) in
      let o = beyond w p q in
      let l : weigh o [] A [] ≡ weigh o [] A' [] = rw t at (weigh_turn o beyond_even [] A []) in
      let r : Arr A A' = record { sums = λ v e. sym (sum-turned v flip e A) ∙ ap (sum v) t } in
      let n = around (turned_by flip Y) (turned_by flip X) (arr_then a r) (sym l ∙ h) in
      record { to = n.to; arranged = n.arranged; close = omega (arith, n.close) }

  pub exchange : (A : List (List ℕ)) → Arr (p ∷ (q ∷ Q)) A → weigh (beyond w p q) [] A [] ≡ 0
      → Near w (2 * meet w p q) ((p ++ q) ∷ Q) A
  exchange A a h =
      exchange_at A (find p A (omega (arith, a.sums (alike p) (alike_flip p), alike_self p))) a h
