-- Trying the lengths of an overlap from the longest down: while none that was tried agrees, the overlap is the longest of
-- those left, and a pass along so many bands finds it.
use Rattle.std.proofs.Common.{◌≡◌, true, false, Bool, List, [], ◌∷◌, ℕ, zero, suc, ◌+◌, ◌-◌, ◌≤◌, ◌<◌, length, take, drop, length-drop, min, refl, sym, ap, subst, ◌∙◌, arith}
use Rattle.std.specs.Prelude.{leb}
use Rattle.words.specs.Decides.{Decides, yes, no}
use Rattle.words.specs.Tests.{pick, same}
use Rattle.words.specs.Overlap.{agrees, overlap_from, overlap}
use Rattle.words.specs.Stand.{begins}
use Rattle.words.specs.Falling.{HeldAtEnd}
use Rattle.words.proofs.Deciding.{is_le}
use Rattle.words.proofs.Overlaps.{overlap_within}
use Rattle.words.proofs.Falling.{held_last}

-- at most k bands are left to try
pub record Tried (a b : List ℕ) (k : ℕ) : Type 0 where
  pub in_left : k ≤ length a
  pub in_right : k ≤ length b
  pub left : overlap_from k a b ≡ overlap a b

-- the last k bands of the one begin the other
agrees_begins : (a b : List ℕ) (k : ℕ) → k ≤ length a → k ≤ length b → agrees a b k ≡ begins (drop (length a - k) a) b
agrees_begins a b k l m =
    let n : length (drop (length a - k) a) ≡ k = omega (arith, length-drop (length a - k) a) in
    rw n at (go (drop (length a - k) a) b (omega arith))
  where
    go : (x y : List ℕ) → length x ≤ length y → same x (take (length x) y) ≡ begins x y
    go [] y l = refl
    go (c ∷ x) [] l = absurd (omega arith)
    go (c ∷ x) (d ∷ y) l = rw (go x y (omega arith))

lesser : (m n : ℕ) → pick (leb m n) m n ≡ min m n
lesser m n = go (leb m n) (is_le m n)
  where
    go : (t : Bool) → Decides (m ≤ n) t → pick t m n ≡ min m n
    go true (yes l) = omega arith
    go false (no h) = omega arith

module _ (a b : List ℕ) where
  pub tried_none : (k : ℕ) → k ≡ min (length a) (length b) → Tried a b k
  tried_none k e =
      record {
        in_left = omega arith;
        in_right = omega arith;
        left = rw (e, lesser (length a) (length b));
      }

  pub tried_last : (k n r : ℕ) → Tried a b k → k ≤ n → n ≤ length a → HeldAtEnd a b n r → r ≡ overlap a b
  tried_last k n r t l m h =
      let w : overlap a b ≤ k = rw (← t.left) (overlap_within a b k t.in_right).within in
      held_last a b n r m (omega arith) h

  -- the longest length left is tried, of the one's last bands f
  module _ (f : List ℕ) where
    test : (k : ℕ) → Tried a b k → f ≡ drop (length a - k) a → agrees a b k ≡ begins f b
    test k t e = agrees_begins a b k t.in_left t.in_right ∙ ap (λ (x : List ℕ). begins x b) (sym e)

    hit : (k : ℕ) → 0 < k → Tried a b k → f ≡ drop (length a - k) a → begins f b ≡ true → k ≡ overlap a b
    hit zero l t e h = absurd (omega (arith, l))
    hit (suc j) l t e h = rw (test (suc j) t e, h, overlap_from) at t.left

    miss : (k : ℕ) → 0 < k → Tried a b k → f ≡ drop (length a - k) a → begins f b ≡ false → Tried a b (k - 1)
    miss zero l t e h = absurd (omega (arith, l))
    miss (suc j) l t e h =
        subst (Tried a b) (omega arith)
        (record {
          in_left = omega (arith, t.in_left);
          in_right = omega (arith, t.in_right);
          left = rw (test (suc j) t e, h, overlap_from) at t.left;
        })

    module _ (m k : ℕ) (n : m ≡ k + 1) (l : 0 < k) (t : Tried a b (m - 1)) (e : f ≡ drop (length a - k) a) where
      now : Tried a b k
      now = subst (Tried a b) (omega (arith, n)) t

      pub tried_hit : begins f b ≡ true → k ≡ overlap a b
      tried_hit = hit k l now e

      pub tried_miss : begins f b ≡ false → Tried a b (k - 1)
      tried_miss = miss k l now e
