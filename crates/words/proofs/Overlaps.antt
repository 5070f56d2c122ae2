-- The overlap of two words: the longest that they share, the same for both turned the other way round,
-- and what Tarhio and Ukkonen's Lemma 3.1 says of four words, by cutting one list in several ways.
use mathlib.Core.Path.{◌≡◌, refl, sym, ap, ◌∙◌}
use mathlib.Core.Bool.{Bool, true, false, true≢false}
use mathlib.Core.Logic.{◌≢◌}
use mathlib.Core.List.{List, ◌++◌, append_assoc}
use Prim.Native.Nat.{ℕ, zero, suc, ◌+◌, ◌-◌, ◌≤◌}
use native.Mathlib.Omega.{arith}
use native.Mathlib.Decide.{dec_le}
use native.Mathlib.Nat.{sub-zero, le_antisymm}
use lib.Dec.{leb}
use borrow.Author.Tests.{leb-true}
use lib.ListN.{length, take, drop, length-append, take-append-drop}
use lib.Seq.{length-take-le, take_at, drop_at, drop-length}
use Rattle.words.specs.Tests.{pick}
use Rattle.words.specs.Turn.{Turning}
use Rattle.words.specs.Stand.{Stands}
use Rattle.words.specs.Overlap.{Shares, Longest, Overlaps, LongestWithin, agrees, overlap_from, overlap}
use Rattle.words.proofs.Tests.{same_eq, eq_same}
use Rattle.words.proofs.Standing.{Between, between}

pub shares_left : {a b : List ℕ} {o : ℕ} (h : Shares a b o) → length a ≡ length h.rest + o
shares_left h = omega (arith, simp length-append at (ap length h.ending), h.size)

pub shares_right : {a b : List ℕ} {o : ℕ} (h : Shares a b o) → length b ≡ o + length h.more
shares_right h = omega (arith, simp length-append at (ap length h.beginning), h.size)

-- the search for it
shares_drop : {a b : List ℕ} {o : ℕ} → Shares a b o → drop (length a - o) a ≡ take o b
shares_drop {a} {b} {o} h =
    let n : length h.rest ≡ length a - o = omega (arith, shares_left h) in
    let p : drop (length a - o) (h.rest ++ h.shared) ≡ h.shared = drop_at h.rest h.shared (length a - o) n in
    let q : take o (h.shared ++ h.more) ≡ h.shared = take_at h.shared h.more o h.size in
    ap (drop (length a - o)) h.ending ∙ p ∙ sym q ∙ ap (take o) (sym h.beginning)

drop_shares : (a b : List ℕ) (o : ℕ) → o ≤ length b → drop (length a - o) a ≡ take o b → Shares a b o
drop_shares a b o l e =
    record {
      rest = take (length a - o) a;
      shared = take o b;
      more = drop o b;
      ending = cc (take-append-drop (length a - o) a);
      beginning = sym (take-append-drop o b);
      size = length-take-le o b l;
    }

module _ (a b : List ℕ) where
  pub hit : (o : ℕ) → agrees a b (suc o) ≡ true → overlap_from (suc o) a b ≡ suc o
  hit o e = cc

  pub miss : (o : ℕ) → agrees a b (suc o) ≡ false → overlap_from (suc o) a b ≡ overlap_from o a b
  miss o e = cc

  -- whatever is shared, the tests say so
  shared_test : {m : ℕ} → Shares a b m → agrees a b m ≡ true
  shared_test h = eq_same _ _ (shares_drop h)

  pub overlap_within : (k : ℕ) → k ≤ length b → LongestWithin k a b (overlap_from k a b)
  overlap_within zero l =
      record { shares = drop_shares a b 0 l (rw (sub-zero, drop-length)); within = omega arith; most = λ m h s. h }
  overlap_within (suc k) l = go (agrees a b (suc k)) refl (overlap_within k (omega arith))
    where
      go : (t : Bool) → agrees a b (suc k) ≡ t → LongestWithin k a b (overlap_from k a b)
          → LongestWithin (suc k) a b (overlap_from (suc k) a b)
      go true e r =
          let s = drop_shares a b (suc k) l (same_eq (drop (length a - suc k) a) (take (suc k) b) e) in
          rw (hit k e) (record { shares = s; within = omega arith; most = λ m h x. h })
      go false e r =
          rw (miss k e) (record { shares = r.shares; within = omega (arith, r.within); most = most })
        where
          most : (m : ℕ) → m ≤ suc k → Shares a b m → m ≤ overlap_from k a b
          most m h x =
              let ne : m ≢ suc k = λ q. true≢false (sym (shared_test (rw q at x)) ∙ e) in
              r.most m (omega arith) x

pub least_right : (m n : ℕ) → pick (leb m n) m n ≤ n
least_right m n = go (leb m n) refl
  where
    go : (t : Bool) → leb m n ≡ t → pick t m n ≤ n
    go true e = leb-true m n e
    go false e = omega arith

least_most : (t : Bool) (k m n : ℕ) → k ≤ m → k ≤ n → k ≤ pick t m n
least_most true k m n p q = p
least_most false k m n p q = q

-- the longest that they share: none has more bands than the shorter of the two
shorter_within : (a b : List ℕ)
    → LongestWithin (pick (leb (length a) (length b)) (length a) (length b)) a b (overlap a b)
shorter_within a b =
    overlap_within a b (pick (leb (length a) (length b)) (length a) (length b)) (least_right (length a) (length b))

pub overlap_shares : (a b : List ℕ) → Shares a b (overlap a b)
overlap_shares a b = (shorter_within a b).shares

pub overlap_longest : (a b : List ℕ) (m : ℕ) → Shares a b m → m ≤ overlap a b
overlap_longest a b m h =
    let t = leb (length a) (length b) in
    let l : m ≤ length a = omega (arith, shares_left h) in
    let r : m ≤ length b = omega (arith, shares_right h) in
    (shorter_within a b).most m (least_most t m (length a) (length b) l r) h

-- The claim on `overlap`: ours meets it, and nothing else does.
pub overlaps_ours : Overlaps overlap
overlaps_ours a b = record { shares = overlap_shares a b; most = overlap_longest a b }

pub longest_only : (a b : List ℕ) (o : ℕ) → Longest a b o → o ≡ overlap a b
longest_only a b o h = le_antisymm (overlap_longest a b o h.shares) (h.most (overlap a b) (overlap_shares a b))

pub overlaps_only : (w : List ℕ → List ℕ → ℕ) → Overlaps w → (a b : List ℕ) → w a b ≡ overlap a b
overlaps_only w h a b = longest_only a b (w a b) (h a b)

pub overlap_right : (a b : List ℕ) → overlap a b ≤ length b
overlap_right a b = omega (arith, shares_right (overlap_shares a b))

-- words turned, the other way round
module _ {turn : List ℕ → List ℕ} (t : Turning turn) where
  shares_turned : {a b : List ℕ} {o : ℕ} → Shares a b o → Shares (turn b) (turn a) o
  shares_turned h =
      record {
        rest = turn h.more;
        shared = turn h.shared;
        more = turn h.rest;
        ending = ap turn h.beginning ∙ t.parts h.shared h.more;
        beginning = ap turn h.ending ∙ t.parts h.rest h.shared;
        size = t.as_long h.shared ∙ h.size;
      }

  pub overlap-turned : (a b : List ℕ) → overlap (turn b) (turn a) ≡ overlap a b
  overlap-turned a b =
      let s = simp t.back at (shares_turned (overlap_shares (turn b) (turn a))) in
      let u = shares_turned (overlap_shares a b) in
      le_antisymm (overlap_longest a b _ s) (overlap_longest (turn b) (turn a) _ u)

-- two words that stand in one: the first starts no later and ends no later, so it ends within their overlap
pub stands_overlap : {a b s : List ℕ} (h : Stands a s) (k : Stands b s)
    → length h.before ≤ length k.before
    → length h.before + length a ≤ length k.before + length b
    → length h.before + length a ≤ length k.before + overlap a b
stands_overlap {a} {b} h k l m = go (dec_le (length h.before + length a) (length k.before))
  where
    u : Between h.before (a ++ h.after) k.before (b ++ k.after)
    u = between h.before (a ++ h.after) k.before (b ++ k.after) (sym h.parts ∙ k.parts) l

    n : length k.before ≡ length h.before + length u.mid
    n = simp length-append at (ap length u.front)

    go : Dec (length h.before + length a ≤ length k.before)
        → length h.before + length a ≤ length k.before + overlap a b
    go (yes z) = omega arith
    go (no z) =
        let v = between u.mid (b ++ k.after) a h.after (sym u.back) (omega (arith, n)) in
        let c : length a ≡ length u.mid + length v.mid = simp length-append at (ap length v.front) in
        let x = between v.mid h.after b k.after (sym v.back) (omega (arith, n)) in
        let s : Shares a b (length v.mid) = record {
          rest = u.mid;
          shared = v.mid;
          more = x.mid;
          ending = v.front;
          beginning = x.front;
          size = refl;
        } in
        omega (arith, n, overlap_longest a b (length v.mid) s)

-- Tarhio and Ukkonen, Lemma 3.1
shares_monge : {x1 x2 x3 x4 : List ℕ} {o i j : ℕ} (k : ℕ) → Shares x1 x3 o → Shares x1 x4 i → Shares x2 x3 j → i ≤ o
    → j ≤ o → i + j ≡ o + k → Shares x2 x4 k
shares_monge k p q r il jl e =
    record {
      rest = r.rest ++ u.mid;
      shared = w.mid;
      more = v.mid ++ q.more;
      ending = cc (r.ending, append_assoc r.rest u.mid w.mid, w.front);
      beginning = cc (q.beginning, append_assoc w.mid v.mid q.more, w.back);
      size = omega (arith, n, simp length-append at (ap length w.front));
    }
  where
    u : Between p.rest p.shared q.rest q.shared
    u =
        let l : length p.rest ≤ length q.rest = omega (arith, shares_left p, shares_left q) in
        between p.rest p.shared q.rest q.shared (sym p.ending ∙ q.ending) l

    v : Between r.shared r.more p.shared p.more
    v =
        let l : length r.shared ≤ length p.shared = omega (arith, p.size, r.size) in
        between r.shared r.more p.shared p.more (sym r.beginning ∙ p.beginning) l

    n : length r.shared ≡ length u.mid + k
    n = omega (arith, p.size, q.size, r.size, simp length-append at (ap length u.back))

    w : Between u.mid q.shared r.shared v.mid
    w = between u.mid q.shared r.shared v.mid (sym u.back ∙ v.front) (omega (arith, n))

pub overlap_monge : (x1 x2 x3 x4 : List ℕ) → overlap x1 x4 ≤ overlap x1 x3 → overlap x2 x3 ≤ overlap x1 x3
    → overlap x1 x4 + overlap x2 x3 ≤ overlap x1 x3 + overlap x2 x4
overlap_monge x1 x2 x3 x4 p q = go (dec_le (overlap x1 x4 + overlap x2 x3) (overlap x1 x3))
  where
    go : Dec (overlap x1 x4 + overlap x2 x3 ≤ overlap x1 x3)
        → overlap x1 x4 + overlap x2 x3 ≤ overlap x1 x3 + overlap x2 x4
    go (yes h) = omega arith
    go (no h) =
        let k : ℕ = overlap x1 x4 + overlap x2 x3 - overlap x1 x3 in
        let s = shares_monge k (overlap_shares x1 x3) (overlap_shares x1 x4) (overlap_shares x2 x3) p q (omega arith) in
        omega (arith, overlap_longest x2 x4 k s)
