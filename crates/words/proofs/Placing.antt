-- The place of a word on a row: ours meets the claim, for every way of turning and every first start, and nothing else
-- does. A word stands at i exactly if what is left of the row from i on begins with it, and this the search asks of one
-- start after the other; so ours goes by induction over what is left of the row. No way has to win: two words of one length
-- that stand at one start are equal, so a word that stands there both ways looks alike.
use mathlib.Core.Path.{◌≡◌, refl, sym, ap, subst, ◌∙◌}
use mathlib.Core.Logic.{inl, inr}
use mathlib.Core.Bool.{Bool, true, false}
use mathlib.Core.List.{List, [], ◌∷◌, ◌++◌}
use Prim.Native.Nat.{ℕ, zero, suc, ◌+◌, ◌≤◌, ◌<◌}
use native.Mathlib.Numerals.{add-one}
use native.Mathlib.Omega.{arith}
use native.Mathlib.Nat.{le_antisymm, le_of_lt}
use lib.ListN.{length, drop, take, take-append-drop, length-drop}
use lib.Seq.{length-take-le, drop_at, drop-drop}
use Rattle.words.specs.Decides.{Decides, yes, no}
use Rattle.words.specs.Turn.{Turning}
use Rattle.words.specs.Stand.{StandsAt, StandsSomeWay, begins}
use Rattle.words.specs.Place.{Place, given_at, turned_at, either_at, nowhere, LooksAlike, NoTie, Neither, NoneBefore}
use Rattle.words.specs.Place.{IsPlace, is_given, is_turned, is_either, is_nowhere, Finds, standing_at}
use Rattle.words.specs.Place.{place_from, place_past, place_of, found}
use Rattle.words.proofs.Deciding.{stable, by_cases, decides_via, is_le, is_same}
use Rattle.words.proofs.Standing.{Begins, is_beginning, stands_length, stands_inside, stands_equal}

-- Standing at a start i, by what is left of the row from there.
module _ {c s : List ℕ} {i : ℕ} where
  pub start_within : StandsAt c s i → i ≤ length s
  start_within h = omega (arith, h.start, stands_length h.stands)

  pub left_begins : StandsAt c s i → Begins c (drop i s)
  left_begins h =
      let st = h.stands in
      (st.after, ap (drop i) st.parts ∙ drop_at st.before (c ++ st.after) i h.start)

  pub begins_left : i ≤ length s → Begins c (drop i s) → StandsAt c s i
  begins_left l h =
      record {
        stands = record { before = take i s; after = h.0; parts = cc (take-append-drop i s, h.1) };
        start = length-take-le i s l;
      }

pub is_standing_at : (c : List ℕ) {s r : List ℕ} {i : ℕ} → i ≤ length s → drop i s ≡ r
    → Decides (StandsAt c s i) (begins c r)
is_standing_at c {s} {r} {i} l e =
    decides_via
    (λ h. begins_left l (subst (Begins c) (sym e) h))
    (λ h. subst (Begins c) e (left_begins h))
    (is_beginning c r)

pub drop_next : (k : ℕ) (s : List ℕ) {r : List ℕ} {b : ℕ} → drop k s ≡ b ∷ r → drop (suc k) s ≡ r
drop_next k s e = rw (← add-one, ← drop-drop 1 k s, e)

-- equal words stand at the same starts
pub stands_as : {v w s : List ℕ} {i : ℕ} → v ≡ w → StandsAt v s i → StandsAt w s i
stands_as {s} {i} = subst (λ (w : List ℕ). StandsAt w s i)

-- The search, from the start k on.
module _ (turn : List ℕ → List ℕ) (c s : List ℕ) where
  none_yet : {k : ℕ} → NoneBefore turn k c s k
  none_yet j l m = absurd (omega arith)

  -- neither way stands at j: j is k, or later
  past : {k j : ℕ} → Neither turn c s k → k ≤ j → (suc k ≤ j → Neither turn c s j) → Neither turn c s j
  past {k} {j} n l later = go (is_le j k)
    where
      go : {t : Bool} → Decides (j ≤ k) t → Neither turn c s j
      go (yes m) = subst (Neither turn c s) (le_antisymm l m) n
      go (no m) = later (omega arith)

  place_later : {k : ℕ} {p : Place} → Neither turn c s k → IsPlace turn (suc k) c s p → IsPlace turn k c s p
  place_later n (is_given l d h o) = is_given (le_of_lt l) d h (λ j m b. past n m (λ r. o j r b))
  place_later n (is_turned l d h o) = is_turned (le_of_lt l) d h (λ j m b. past n m (λ r. o j r b))
  place_later n (is_either l e h o) = is_either (le_of_lt l) e h (λ j m b. past n m (λ r. o j r b))
  place_later n (is_nowhere o) = is_nowhere (λ j m. past n m (o j))

  beyond : {j : ℕ} → length s < j → Neither turn c s j
  beyond l =
      record {
        not_given = λ h. omega (arith, start_within h);
        not_turned = λ h. omega (arith, start_within h);
      }

  place_nowhere : {k : ℕ} → length s ≤ k → Neither turn c s k → IsPlace turn k c s nowhere
  place_nowhere e n = is_nowhere (λ j m. past n m (λ r. beyond (omega arith)))

  -- c stands as given at the first start
  place_here : {k : ℕ} → StandsAt c s k → IsPlace turn k c s (standing_at turn c k)
  place_here {k} h =
      by_cases
      (IsPlace turn k c s)
      (is_same c (turn c))
      (λ e. is_either (omega arith) e h none_yet)
      (λ d. is_given (omega arith) d h none_yet)

  -- what the search does at one start, going on to what it finds later
  by_start : {k : ℕ} {r : List ℕ} (p : Place) → k ≤ length s → drop k s ≡ r
      → (Neither turn c s k → IsPlace turn k c s p)
      → IsPlace turn k c s (elim (begins c r) [
        | true ↦ standing_at turn c k
        | false ↦ elim (begins (turn c) r) [ true ↦ turned_at k | false ↦ p ]
      ])
  by_start {k} p l e go_on =
      by_cases
      (IsPlace turn k c s)
      (is_standing_at c l e)
      place_here
      (λ x. by_cases
      (IsPlace turn k c s)
      (is_standing_at (turn c) l e)
      (λ h. is_turned (omega arith) (λ a. x (stands_as (sym a) h)) h none_yet)
      (λ y. go_on (record { not_given = x; not_turned = y })))

  place_left : (r : List ℕ) (k : ℕ) → k ≤ length s → drop k s ≡ r → IsPlace turn k c s (place_from turn k c r)
  place_left [] k l e = by_start nowhere l e (place_nowhere (omega (arith, length-drop k s, ap length e)))
  place_left (b ∷ r) k l e =
      let m : suc k ≤ length s = omega (arith, length-drop k s, ap length e) in
      by_start (place_from turn (suc k) c r) l e (λ n. place_later n (place_left r (suc k) m (drop_next k s e)))

  -- from the start n on, k starts behind i
  place_past_lem : (k i n : ℕ) (r : List ℕ) → i + k ≡ n → i ≤ length s → drop i s ≡ r → IsPlace turn n c s (place_past turn k i c r)
  place_past_lem zero i n r q l e =
      let o : i ≡ n = omega arith in
      subst (λ (m : ℕ). IsPlace turn m c s (place_from turn i c r)) o (place_left r i l e)
  place_past_lem (suc k) i n [] q l e =
      let o : length s ≤ i = omega (arith, length-drop i s, ap length e) in
      is_nowhere (λ j m. beyond (omega arith))
  place_past_lem (suc k) i n (b ∷ r) q l e =
      let m : suc i ≤ length s = omega (arith, length-drop i s, ap length e) in
      place_past_lem k (suc i) n r (omega arith) m (drop_next i s e)

pub finds_ours : (turn : List ℕ → List ℕ) → Finds turn (place_of turn)
finds_ours turn k c s = place_past_lem turn c s k 0 k s (omega arith) (omega arith) refl

-- No freedom: two smallest starts are one, and at one start the way is settled.
-- i is the smallest start from k on at which some way stands
record First (turn : List ℕ → List ℕ) (k : ℕ) (c s : List ℕ) (i : ℕ) : Type 0 where
  from_on : k ≤ i
  some : Neither turn c s i → ⊥
  none_before : NoneBefore turn k c s i

-- two words of one length at one start are equal
one_word : {a b s : List ℕ} {i : ℕ} → length b ≡ length a → StandsAt a s i → StandsAt b s i → a ≡ b
one_word n h g =
    let l = h.start in
    let m = g.start in
    sym (stands_equal n (stands_inside h.stands g.stands (omega (arith, l, m)) (omega (arith, l, m))))

-- so a word that stands both ways at one start looks alike
pub no_tie : {turn : List ℕ → List ℕ} → Turning turn → NoTie turn
no_tie t c s i h g = one_word (t.as_long c) h g

module _ {turn : List ℕ → List ℕ} (t : Turning turn) {k : ℕ} {c s : List ℕ} where
  first_given : {i : ℕ} → k ≤ i → StandsAt c s i → NoneBefore turn k c s i → First turn k c s i
  first_given l h n = record { from_on = l; some = λ x. x.not_given h; none_before = n }

  first_turned : {i : ℕ} → k ≤ i → StandsAt (turn c) s i → NoneBefore turn k c s i → First turn k c s i
  first_turned l h n = record { from_on = l; some = λ x. x.not_turned h; none_before = n }

  no_later : {i j : ℕ} → First turn k c s i → First turn k c s j → j ≤ i
  no_later {i} {j} a b = stable (is_le j i) (λ m. a.some (b.none_before i a.from_on (omega arith)))

  one_start : {i j : ℕ} → First turn k c s i → First turn k c s j → i ≡ j
  one_start a b = le_antisymm (no_later b a) (no_later a b)

  -- the smallest start is no word's as given and turned, unless it looks alike
  one_way : {i j : ℕ} → First turn k c s i → First turn k c s j → StandsAt c s i → StandsAt (turn c) s j
      → LooksAlike turn c
  one_way {j} a b h g = no_tie t c s j (subst (StandsAt c s) (one_start a b) h) g

  pub place_one : {p q : Place} → IsPlace turn k c s p → IsPlace turn k c s q → p ≡ q
  place_one (is_given l d h n) (is_given m e g o) = ap given_at (one_start (first_given l h n) (first_given m g o))
  place_one (is_given l d h n) (is_turned m e g o) = absurd (d (one_way (first_given l h n) (first_turned m g o) h g))
  place_one (is_given l d h n) (is_either m e g o) = absurd (d e)
  place_one (is_given l d h n) (is_nowhere o) = absurd ((o _ l).not_given h)
  place_one (is_turned l d h n) (is_given m e g o) = absurd (d (one_way (first_given m g o) (first_turned l h n) g h))
  place_one (is_turned l d h n) (is_turned m e g o) = ap turned_at (one_start (first_turned l h n) (first_turned m g o))
  place_one (is_turned l d h n) (is_either m e g o) = absurd (d e)
  place_one (is_turned l d h n) (is_nowhere o) = absurd ((o _ l).not_turned h)
  place_one (is_either l e h n) (is_given m d g o) = absurd (d e)
  place_one (is_either l e h n) (is_turned m d g o) = absurd (d e)
  place_one (is_either l e h n) (is_either m f g o) = ap either_at (one_start (first_given l h n) (first_given m g o))
  place_one (is_either l e h n) (is_nowhere o) = absurd ((o _ l).not_given h)
  place_one (is_nowhere n) (is_given m d g o) = absurd ((n _ m).not_given g)
  place_one (is_nowhere n) (is_turned m d g o) = absurd ((n _ m).not_turned g)
  place_one (is_nowhere n) (is_either m e g o) = absurd ((n _ m).not_given g)
  place_one (is_nowhere n) (is_nowhere o) = refl

module _ {turn : List ℕ → List ℕ} (t : Turning turn) where
  pub place_is : {k : ℕ} {c s : List ℕ} {p : Place} → IsPlace turn k c s p → p ≡ place_of turn k c s
  place_is {k} {c} {s} h = place_one t h (finds_ours turn k c s)

  pub finds_only : (find : ℕ → List ℕ → List ℕ → Place) → Finds turn find → (k : ℕ) (c s : List ℕ)
      → find k c s ≡ place_of turn k c s
  finds_only find h k c s = place_is (h k c s)

-- A word has a place exactly if it stands some way.
place_found : {turn : List ℕ → List ℕ} {c s : List ℕ} {p : Place} → IsPlace turn 0 c s p
    → Decides (StandsSomeWay turn c s) (found p)
place_found (is_given l d h n) = yes (inl h.stands)
place_found (is_turned l d h n) = yes (inr h.stands)
place_found (is_either l e h n) = yes (inl h.stands)
place_found (is_nowhere n) =
    no (elim [
      | inl h ↦ (n (length h.before) (omega arith)).not_given (record { stands = h; start = refl })
      | inr h ↦ (n (length h.before) (omega arith)).not_turned (record { stands = h; start = refl })
    ])

pub found_exactly : (turn : List ℕ → List ℕ) (c s : List ℕ)
    → Decides (StandsSomeWay turn c s) (found (place_of turn 0 c s))
found_exactly turn c s = place_found (finds_ours turn 0 c s)
