-- Falling back through shorter beginnings keeps the match held the longest. What a passed text shares with b is, below the
-- match held, what the match itself shares with b (both end alike), so its longest shorter part is the fall-back; and a text
-- with one band more shares what it shared before, where that band follows.
use mathlib.Core.Path.{◌≡◌, refl, sym, subst, ap, ◌∙◌}
use mathlib.Core.List.{List, [], ◌∷◌, ◌++◌, append_assoc, append-nil}
use Prim.Native.Nat.{ℕ, zero, suc, ◌+◌, ◌-◌, ◌≤◌, ◌<◌}
use native.Mathlib.Omega.{arith}
use native.Mathlib.Numerals.{add-one}
use native.Mathlib.Nat.{le_antisymm}
use native.Mathlib.Decide.{dec_lt}
use lib.ListN.{length, take, drop, get_or, length-append, length-drop, take-append-drop}
use lib.Seq.{take_at, take-suc, take_all, drop_at, drop-cons, get_or_at, length-take-le}
use Rattle.words.specs.Overlap.{Shares, Longest, overlap}
use Rattle.words.specs.Falling.{Held, HeldAtEnd, FallBack, Follows, Advances}
use Rattle.words.proofs.Deciding.{not_lt}
use Rattle.words.proofs.Standing.{between}
use Rattle.words.proofs.Overlaps.{shares_left, shares_right, overlap_shares, overlap_longest}

-- Nothing is always shared.
pub shares_none : (t b : List ℕ) → Shares t b 0
shares_none t b =
    record { rest = t; shared = []; more = b; ending = sym (append-nil t); beginning = refl; size = refl }

-- What the end of a text shares with b, the text shares; and the other way round, where the end is as long.
module _ (front : List ℕ) {t b : List ℕ} {o : ℕ} where
  pub shares_behind : Shares t b o → Shares (front ++ t) b o
  shares_behind h =
      record {
        rest = front ++ h.rest;
        shared = h.shared;
        more = h.more;
        ending = cc (h.ending, append_assoc front h.rest h.shared);
        beginning = h.beginning;
        size = h.size;
      }

  pub shares_end : o ≤ length t → Shares (front ++ t) b o → Shares t b o
  shares_end l h =
      let n : length front ≤ length h.rest = omega (arith, shares_left h, length-append front t) in
      let u = between front t h.rest h.shared h.ending n in
      record {
        rest = u.mid;
        shared = h.shared;
        more = h.more;
        ending = u.back;
        beginning = h.beginning;
        size = h.size;
      }

-- A text that shares k bands with b ends in the first k bands of b; so below k it shares what they share.
module _ {t b : List ℕ} {k : ℕ} (h : Shares t b k) where
  pub beginning_held : h.shared ≡ take k b
  beginning_held = sym (ap (take k) h.beginning ∙ take_at h.shared h.more k h.size)

  pub ends_so : t ≡ h.rest ++ take k b
  ends_so = h.ending ∙ ap (λ (s : List ℕ). h.rest ++ s) beginning_held

  pub shares_up : {j : ℕ} → Shares (take k b) b j → Shares t b j
  shares_up {j} s = subst (λ (y : List ℕ). Shares y b j) (sym ends_so) (shares_behind h.rest s)

  pub shares_down : {j : ℕ} → j ≤ k → Shares t b j → Shares (take k b) b j
  shares_down {j} l s =
      let n : length (take k b) ≡ k = sym (ap length beginning_held) ∙ h.size in
      shares_end h.rest (omega arith) (subst (λ (y : List ℕ). Shares y b j) ends_so s)

-- One band more.
pub shares_longer : {t b : List ℕ} {j x : ℕ} → Shares t b j → Follows b j x → Shares (t ++ (x ∷ [])) b (j + 1)
shares_longer {t} {b} {j} {x} h f =
    record {
      rest = h.rest;
      shared = h.shared ++ (x ∷ []);
      more = drop (suc j) b;
      ending = cc (h.ending, append_assoc h.rest h.shared (x ∷ []));
      beginning = cc (h.beginning, behind, append_assoc h.shared (x ∷ []) (drop (suc j) b));
      size = omega (arith, length-append h.shared (x ∷ []), h.size);
    }
  where
    behind : h.more ≡ x ∷ drop (suc j) b
    behind =
        let d : drop j b ≡ h.more = ap (drop j) h.beginning ∙ drop_at h.shared h.more j h.size in
        let e : drop j b ≡ get_or b j 0 ∷ drop (suc j) b = drop-cons b j 0 f.0 in
        cc (d, e, f.1)

pub shares_shorter : {t b : List ℕ} {j x : ℕ} → Shares (t ++ (x ∷ [])) b (suc j) → Shares t b j × Follows b j x
shares_shorter {t} {b} {j} {x} h =
    let n : length h.rest ≤ length t = omega (arith, shares_left h, length-append t (x ∷ [])) in
    let u = between h.rest h.shared t (x ∷ []) (sym h.ending) n in
    let l : length u.mid ≡ j = omega (arith, h.size, ap length u.back, length-append u.mid (x ∷ [])) in
    let e : b ≡ u.mid ++ (x ∷ h.more) = h.beginning ∙ cc (u.back, append_assoc u.mid (x ∷ []) h.more) in (
      record { rest = h.rest; shared = u.mid; more = x ∷ h.more; ending = u.front; beginning = e; size = l },
      (omega (arith, shares_right h), ap (λ (y : List ℕ). get_or y j 0) e ∙ get_or_at u.mid x h.more 0 j l),
    )

-- The pass.
module _ (a b : List ℕ) where
  pub held_none : Held a b 0 0
  held_none = record { shares = shares_none [] b; most = λ m s. omega (arith, shares_left s) }

  pub held_more : (i m x r : ℕ) → Follows a i x → Held a b i m → Advances b m x r → Held a b (i + 1) r
  held_more i m x r n h f = rw (add-one, take-suc a i 0 n.0, n.1) (f (take i a) h)

  pub held_in : (i m : ℕ) → i ≤ length a → Held a b i m → (m ≤ i) × (m ≤ length b)
  held_in i m l h =
      (omega (arith, shares_left h.shares, length-take-le i a l), omega (arith, shares_right h.shares))

-- held at the end of the last k bands of a, where no more are shared: the overlap
pub held_last : (a b : List ℕ) (k m : ℕ) → k ≤ length a → overlap a b ≤ k → HeldAtEnd a b k m → m ≡ overlap a b
held_last a b k m l n h = le_antisymm (overlap_longest a b m above) (h.most (overlap a b) below)
  where
    front : List ℕ
    front = take (length a - k) a

    last : List ℕ
    last = take k (drop (length a - k) a)

    long : length (drop (length a - k) a) ≡ k
    long = omega (arith, length-drop (length a - k) a)

    parts : front ++ last ≡ a
    parts = rw (take_all k (drop (length a - k) a) (omega (arith, long))) (take-append-drop (length a - k) a)

    above : Shares a b m
    above = subst (λ (y : List ℕ). Shares y b m) parts (shares_behind front h.shares)

    below : Shares last b (overlap a b)
    below =
        let s : Shares (front ++ last) b (overlap a b) =
        subst (λ (y : List ℕ). Shares y b (overlap a b)) (sym parts) (overlap_shares a b) in
        shares_end front (omega (arith, length-take-le k (drop (length a - k) a) (omega (arith, long)))) s

-- The first m bands of b, as a text: m are held.
shares_itself : {b : List ℕ} {m : ℕ} → m ≤ length b → Shares (take m b) b m
shares_itself {b} {m} l =
    record {
      rest = [];
      shared = take m b;
      more = drop m b;
      ending = refl;
      beginning = sym (take-append-drop m b);
      size = length-take-le m b l;
    }

holds_no_more : {b : List ℕ} {m j : ℕ} → m ≤ length b → Shares (take m b) b j → j ≤ m
holds_no_more {b} {m} l s = omega (arith, shares_left s, length-take-le m b l)

pub held_itself : {b : List ℕ} {m : ℕ} → m ≤ length b → Longest (take m b) b m
held_itself l = record { shares = shares_itself l; most = λ j s. holds_no_more l s }

-- All that counts of a text is the match that is held at its end: what that and x hold, the text and x hold.
pub advances_so : {b : List ℕ} (m x : ℕ) {r : ℕ} → Longest (take m b ++ (x ∷ [])) b r → Advances b m x r
advances_so {b} m x {r} g t h = record { shares = up g.shares; most = most }
  where
    held : List ℕ
    held = take m b ++ (x ∷ [])

    parts : h.shares.rest ++ held ≡ t ++ (x ∷ [])
    parts = cc (ends_so h.shares, append_assoc h.shares.rest (take m b) (x ∷ []))

    up : {o : ℕ} → Shares held b o → Shares (t ++ (x ∷ [])) b o
    up {o} s = subst (λ (y : List ℕ). Shares y b o) parts (shares_behind h.shares.rest s)

    long : length held ≡ m + 1
    long = omega (arith, length-append (take m b) (x ∷ []), ap length (beginning_held h.shares), h.shares.size)

    most : (j : ℕ) → Shares (t ++ (x ∷ [])) b j → j ≤ r
    most zero s = omega arith
    most (suc j) s =
        let l = h.most j (shares_shorter s).0 in
        let w : Shares (h.shares.rest ++ held) b (suc j) = subst (λ (y : List ℕ). Shares y b (suc j)) (sym parts) s in
        g.most (suc j) (shares_end h.shares.rest (omega (arith, long)) w)

-- a match grows by one band at most
pub advances_one : {b : List ℕ} {m x r : ℕ} → m ≤ length b → Advances b m x r → r ≤ m + 1
advances_one {b} {m} {x} {r} l f =
    let g = f (take m b) (held_itself l) in
    omega (arith, shares_left g.shares, length-append (take m b) (x ∷ []), length-take-le m b l)

-- Falling back from m to k: the first m bands end with the first k, and of the longer beginnings with which they end none is
-- followed by x.
pub record Falling (b : List ℕ) (m x k : ℕ) : Type 0 where
  pub below : k ≤ m
  pub ends : Shares (take m b) b k
  pub passed : (j : ℕ) → k < j → Shares (take m b) b j → Follows b j x → ⊥

module _ {b : List ℕ} {m x : ℕ} where
  pub falling_none : m ≤ length b → Falling b m x m
  falling_none l =
      record { below = omega arith; ends = shares_itself l; passed = λ j p s f. omega (arith, holds_no_more l s) }

  module _ {k : ℕ} (c : Falling b m x k) where
    pub falling_more : {f : ℕ} → (Follows b k x → ⊥) → FallBack b k f → Falling b m x f
    falling_more {f} n g =
        record {
          below = omega (arith, g.shorter, c.below);
          ends = shares_up c.ends g.ends;
          passed = λ j l s. between_these j l s (dec_lt k j) (dec_lt j k);
        }
      where
        between_these : (j : ℕ) → f < j → Shares (take m b) b j → Dec (k < j) → Dec (j < k) → Follows b j x → ⊥
        between_these j l s (yes p) d = c.passed j p s
        between_these j l s (no p) (yes q) =
            λ w. omega (arith, g.longest j q (shares_down c.ends (omega arith) s))
        between_these j l s (no p) (no q) = let e : j ≡ k = omega arith in rw e n

    no_longer : (j : ℕ) → Shares (take m b ++ (x ∷ [])) b (suc j) → (j ≤ k) × Follows b j x
    no_longer j s = let w = shares_shorter s in (not_lt (λ p. c.passed j p w.0 w.1), w.1)

    pub falling_hit : Follows b k x → Advances b m x (k + 1)
    falling_hit f = advances_so m x (record { shares = shares_longer c.ends f; most = most })
      where
        most : (j : ℕ) → Shares (take m b ++ (x ∷ [])) b j → j ≤ k + 1
        most zero s = omega arith
        most (suc j) s = omega (arith, (no_longer j s).0)

    pub falling_all : k ≡ 0 → (Follows b k x → ⊥) → Advances b m x 0
    falling_all e n = advances_so m x (record { shares = shares_none (take m b ++ (x ∷ [])) b; most = most })
      where
        most : (j : ℕ) → Shares (take m b ++ (x ∷ [])) b j → j ≤ 0
        most zero s = omega arith
        most (suc j) s =
            let w = no_longer j s in
            let q : k ≡ j = omega (arith, w.0) in
            absurd (n (rw q w.1))
