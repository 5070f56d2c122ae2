-- How often a word stands: ours meets the claim, for every way of turning, and nothing else does. Start by start, a row has
-- exactly the starts passed at which some way stands, and the next one is behind them all, so the row rises.
use mathlib.Core.Path.{◌≡◌, refl, ap, ◌∙◌, sym}
use mathlib.Core.Logic.{◌⊎◌, inl, inr}
use mathlib.Core.Bool.{Bool}
use mathlib.Core.List.{List, [], ◌∷◌, ◌++◌}
use Prim.Native.Nat.{ℕ, zero, suc, ◌+◌, ◌≤◌, ◌<◌}
use native.Mathlib.Omega.{arith}
use native.Mathlib.Nat.{zero-add}
use lib.ListN.{length, drop, length-append, length-drop}
use Rattle.words.specs.Lists.{In, Rising}
use Rattle.words.specs.Tests.{pick}
use Rattle.words.specs.Decides.{Decides, yes, no}
use Rattle.words.specs.Stand.{StandsHere}
use Rattle.words.specs.Place.{Neither}
use Rattle.words.specs.Count.{IsCount, Counts, count_here, count_of}
use Rattle.words.proofs.Lists.{in_left, in_right, in_either, rising_same, rising_few, rising_more}
use Rattle.words.proofs.Deciding.{refuses, decides_or, is_lt}
use Rattle.words.proofs.Placing.{is_standing_at, start_within, drop_next}
use Rattle.words.proofs.Starting.{end_within, left_stands}

-- a rising row has exactly the starts before k at which some way stands, n of them
pub record Counted (turn : List ℕ → List ℕ) (c s : List ℕ) (k n : ℕ) : Type 0 where
  pub starts : List ℕ
  pub in_order : Rising starts
  pub only : (i : ℕ) → In i starts → (i < k) × StandsHere turn c s i
  pub all : (i : ℕ) → i < k → StandsHere turn c s i → In i starts
  pub size : length starts ≡ n

module _ (turn : List ℕ → List ℕ) (c s : List ℕ) where
  pub counted_none : Counted turn c s 0 0
  counted_none =
      record { starts = []; in_order = tt; only = λ i x. absurd x; all = λ i l x. absurd (omega arith); size = refl }

  module _ {k n : ℕ} (h : Counted turn c s k n) where
    -- the next start that counts
    pub counted_next : {j : ℕ} → k ≤ j → ((i : ℕ) → k ≤ i → i < j → StandsHere turn c s i → ⊥) → StandsHere turn c s j
        → Counted turn c s (suc j) (n + 1)
    counted_next {j} l none x =
        record {
          starts = h.starts ++ (j ∷ []);
          in_order = rising_more h.starts j h.in_order (λ i y. omega (arith, (h.only i y).0));
          only = λ i y. only i (in_either i h.starts (j ∷ []) y);
          all = λ i m y. all i m y (is_lt i k) (is_lt i j);
          size = omega (arith, length-append h.starts (j ∷ []), h.size);
        }
      where
        only : (i : ℕ) → In i h.starts ⊎ In i (j ∷ []) → (i < suc j) × StandsHere turn c s i
        only i (inr (inr x3)) = elim x3 [ ]
        only i (inl y) = let o = h.only i y in (omega (arith, o.0), o.1)
        only i (inr (inl e)) = (omega arith, rw e x)

        all : (i : ℕ) → i < suc j → StandsHere turn c s i → {t u : Bool} → Decides (i < k) t → Decides (i < j) u
            → In i (h.starts ++ (j ∷ []))
        all i m y (yes a) b = in_left i h.starts (j ∷ []) (h.all i a y)
        all i m y (no a) (yes b) = absurd (none i (omega arith) b y)
        all i m y (no a) (no b) = in_right i h.starts (j ∷ []) (inl (omega arith))

    counted_miss : (StandsHere turn c s k → ⊥) → Counted turn c s (suc k) n
    counted_miss x =
        record {
          starts = h.starts;
          in_order = h.in_order;
          only = λ i y. let o = h.only i y in (omega (arith, o.0), o.1);
          all = λ i l y. all i l y (is_lt i k);
          size = h.size;
        }
      where
        all : (i : ℕ) → i < suc k → StandsHere turn c s i → {t : Bool} → Decides (i < k) t → In i h.starts
        all i l y (yes m) = h.all i m y
        all i l y (no m) = let e : i ≡ k = omega arith in absurd (x (rw e at y))

    pub counted_all : ((i : ℕ) → StandsHere turn c s i → i < k) → {m : ℕ} → n ≡ m → IsCount turn c s m
    counted_all f e =
        record {
          starts = h.starts;
          in_order = h.in_order;
          only = λ i y. (h.only i y).1;
          all = λ i y. h.all i (f i y) y;
          size = h.size ∙ e;
        }

    -- a start settled by a test
    counted_by_lem : {t : Bool} → Decides (StandsHere turn c s k) t → Counted turn c s (suc k) (n + pick t 1 0)
    counted_by_lem (yes x) = counted_next (omega arith) (λ i a b. absurd (omega arith)) x
    counted_by_lem (no x) = let e : n ≡ n + 0 = omega arith in rw e at (counted_miss x)

  here_within : (i : ℕ) → StandsHere turn c s i → i ≤ length s
  here_within i (inl x) = start_within x
  here_within i (inr x) = start_within x

  is_here : {k : ℕ} {r : List ℕ} → k ≤ length s → drop k s ≡ r
      → {n : ℕ} → Counted turn c s k n → Counted turn c s (suc k) (n + count_here turn c r)
  is_here l e h = counted_by_lem h (decides_or (is_standing_at c l e) (is_standing_at (turn c) l e))

  count_left : (r : List ℕ) (k n m : ℕ) → k ≤ length s → drop k s ≡ r → Counted turn c s k n → n + count_of turn c r ≡ m
      → IsCount turn c s m
  count_left [] k n m l e h q =
      let o : length s ≤ k = omega (arith, length-drop k s, ap length e) in
      counted_all (is_here l e h) (λ i x. omega (arith, here_within i x)) q
  count_left (b ∷ r) k n m l e h q =
      let o : suc k ≤ length s = omega (arith, length-drop k s, ap length e) in
      count_left r (suc k) _ m o (drop_next k s e) (is_here l e h) (omega arith)

-- The claim on the count: ours meets it, and nothing else does.
pub counts_ours : (turn : List ℕ → List ℕ) → Counts turn (count_of turn)
counts_ours turn c s = count_left turn c s s 0 0 (count_of turn c s) (omega arith) refl (counted_none turn c s) (omega arith)

pub count_one : {turn : List ℕ → List ℕ} {c s : List ℕ} {m n : ℕ} → IsCount turn c s m → IsCount turn c s n → m ≡ n
count_one a b =
    let e = rising_same a.starts b.starts a.in_order b.in_order (λ i x. b.all i (a.only i x))
    (λ i x. a.all i (b.only i x)) in
    sym a.size ∙ ap length e ∙ b.size

pub count_is : {turn : List ℕ → List ℕ} {c s : List ℕ} {n : ℕ} → IsCount turn c s n → n ≡ count_of turn c s
count_is {turn} {c} {s} h = count_one h (counts_ours turn c s)

pub counts_only : {turn : List ℕ → List ℕ} (count : List ℕ → List ℕ → ℕ) → Counts turn count → (c s : List ℕ)
    → count c s ≡ count_of turn c s
counts_only count h c s = count_is (h c s)

-- A word of one band or more stands at most as often as the row has bands.
pub count_most : {turn : List ℕ → List ℕ} {c s : List ℕ} {n : ℕ} → length (turn c) ≡ length c → 0 < length c
    → IsCount turn c s n → n ≤ length s
count_most {turn} {c} {s} e z h =
    omega (arith, h.size, rising_few h.starts 0 (length s) (omega arith) h.in_order (λ i x. (omega arith, within i (h.only i x))))
  where
    within : (i : ℕ) → StandsHere turn c s i → i < length s
    within i (inl x) = omega (arith, end_within x)
    within i (inr x) = omega (arith, end_within x)

-- Where no way stands before the start k, the starts from there on are all.
pub count_behind : (turn : List ℕ → List ℕ) (c s : List ℕ) (k : ℕ) → k ≤ length s
    → ((i : ℕ) → i < k → Neither turn c s i) → count_of turn c s ≡ count_of turn c (drop k s)
count_behind turn c s zero l n = refl
count_behind turn c [] (suc k) l n = absurd (omega arith)
count_behind turn c (b ∷ s) (suc k) l n =
    let z = n 0 (omega arith) in
    let g = refuses (is_standing_at c {s = b ∷ s} (omega arith) refl) z.not_given in
    let t = refuses (is_standing_at (turn c) {s = b ∷ s} (omega arith) refl) z.not_turned in
    let e = count_behind turn c s k (omega arith) (λ i m. later i (n (1 + i) (omega arith))) in
    rw (g, t) (zero-add (count_of turn c s) ∙ e)
  where
    later : (i : ℕ) → Neither turn c (b ∷ s) (1 + i) → Neither turn c s i
    later i x =
        record {
          not_given = λ y. x.not_given (left_stands c (b ∷ s) 1 (omega arith) y);
          not_turned = λ y. x.not_turned (left_stands (turn c) (b ∷ s) 1 (omega arith) y);
        }
