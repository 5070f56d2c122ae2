-- Wrong ways to turn words, to find their overlap and to place them, each written out and caught by its claim.
-- A claim has one outcome, so an impostor is caught where what it gives is not what ours gives. The searches have their
-- parts open, so that a right one and the wrong ones are instances of one definition.
use mathlib.Core.Path.{◌≡◌, refl, ap}
use mathlib.Core.Bool.{Bool, true, false}
use mathlib.Core.List.{List, [], ◌∷◌, ◌++◌}
use Prim.Native.Nat.{ℕ, zero, suc, ◌-◌}
use native.Mathlib.Omega.{arith}
use lib.Dec.{leb}
use lib.ListN.{length, take, drop}
use Rattle.words.specs.Tests.{pick, same}
use Rattle.words.specs.Turn.{turned, Turns}
use Rattle.words.specs.Stand.{begins, stands_in}
use Rattle.words.specs.Overlap.{Overlaps, overlap_from, overlap}
use Rattle.words.specs.Place.{Place, given_at, turned_at, either_at, nowhere, Finds, standing_at}
use Rattle.words.specs.Place.{place_from, place_past, place_of, found}
use Rattle.words.specs.Texts.{text}
use Rattle.words.proofs.Tests.{differ}
use Rattle.words.proofs.Turning.{turning, turns_only}
use Rattle.words.proofs.Overlaps.{overlaps_only}
use Rattle.words.proofs.Placing.{finds_only}

-- Turning: a word left as it is; its first band put last, the others as they were
abbrev unturned : List ℕ → List ℕ
unturned c = c

abbrev first_last : List ℕ → List ℕ
first_last [] = []
first_last (b ∷ c) = c ++ (b ∷ [])

pub not_unturned : Turns unturned → ⊥
unfolding turned
not_unturned h =
    let e : text "AB" ≡ text "BA" = turns_only unturned h (text "AB") in
    differ refl e

pub not_first_last : Turns first_last → ⊥
unfolding turned
not_first_last h =
    let e : text "BCA" ≡ text "CBA" = turns_only first_last h (text "ABC") in
    differ refl e

-- Overlaps: the first of some lengths that is shared
abbrev first_shared : List ℕ → List ℕ → List ℕ → ℕ
first_shared [] a b = 0
first_shared (o ∷ os) a b = elim (same (drop (length a - o) a) (take o b)) [
  | true ↦ o
  | false ↦ first_shared os a b
]

abbrev down : ℕ → List ℕ
down zero = []
down (suc n) = suc n ∷ down n

abbrev up : ℕ → ℕ → List ℕ
up i zero = []
up i (suc n) = i ∷ up (suc i) n

abbrev shorter : List ℕ → List ℕ → ℕ
shorter a b = pick (leb (length a) (length b)) (length a) (length b)

-- the right one; the shortest that is not empty; the longest that is no whole word
abbrev longest : List ℕ → List ℕ → ℕ
longest a b = first_shared (down (shorter a b)) a b

abbrev shortest : List ℕ → List ℕ → ℕ
shortest a b = first_shared (up 1 (shorter a b)) a b

abbrev no_whole : List ℕ → List ℕ → ℕ
no_whole a b = first_shared (down (shorter a b - 1)) a b

pub longest_is_ours : (a b : List ℕ) → longest a b ≡ overlap a b
longest_is_ours a b = from (shorter a b)
  where
    from : (n : ℕ) → first_shared (down n) a b ≡ overlap_from n a b
    from zero = refl
    from (suc n) = cc (from n)

pub not_shortest : Overlaps shortest → ⊥
not_shortest h =
    let e : ◌≡◌ {A = ℕ} 1 2 = overlaps_only shortest h (text "BAA") (text "AAB") in
    omega arith

pub not_no_whole : Overlaps no_whole → ⊥
not_no_whole h =
    let e : ◌≡◌ {A = ℕ} 0 2 = overlaps_only no_whole h (text "AB") (text "AB") in
    omega arith

-- Places: what is found at a start, and which of two places is taken, this start's or a later one
abbrev search_from : (ℕ → List ℕ → List ℕ → Place) → (Place → Place → Place) → ℕ → List ℕ → List ℕ → Place
search_from here taken i c [] = taken (here i c []) nowhere
search_from here taken i c (b ∷ s) = taken (here i c (b ∷ s)) (search_from here taken (suc i) c s)

abbrev choice : Bool → Place → Place → Place
choice t p q = elim t [ true ↦ p | false ↦ q ]

-- at a start: as given, or either way where a test of the word and of what is left of the row says so; else turned
abbrev here_by : (List ℕ → List ℕ → Bool) → ℕ → List ℕ → List ℕ → Place
here_by alike i c s =
    choice (begins c s) (choice (alike c s) (either_at i) (given_at i)) (choice (begins (turned c) s) (turned_at i) nowhere)

-- such tests: equal to its turned form, the right one; the turned form stands here or further on; the first band is the last
abbrev equal_turned : List ℕ → List ℕ → Bool
equal_turned c s = same c (turned c)

abbrev elsewhere : List ℕ → List ℕ → Bool
elsewhere c s = stands_in (turned c) s

abbrev equal_ends : List ℕ → List ℕ → Bool
equal_ends c s = same (take 1 c) (take 1 (turned c))

-- by the right test; turned before given, and never either; given only
abbrev here : ℕ → List ℕ → List ℕ → Place
here = here_by equal_turned

abbrev turned_first : ℕ → List ℕ → List ℕ → Place
turned_first i c s = choice (begins (turned c) s) (turned_at i) (choice (begins c s) (given_at i) nowhere)

abbrev given_only : ℕ → List ℕ → List ℕ → Place
given_only i c s = choice (begins c s) (standing_at turned c i) nowhere

-- of two places: the earlier; the later
abbrev earlier : Place → Place → Place
earlier p q = choice (found p) p q

abbrev later : Place → Place → Place
later p q = choice (found q) q p

-- from a first start k on: a search of what is left, whose first band has the number i
abbrev past : (ℕ → List ℕ → List ℕ → Place) → ℕ → ℕ → List ℕ → List ℕ → Place
past search i zero c s = search i c s
past search i (suc k) c [] = nowhere
past search i (suc k) c (b ∷ s) = past search (suc i) k c s

-- the smallest place, by a test of what looks alike: the right one; given or turned for a word that looks alike; either for
-- each word, for one whose turned form stands elsewhere, for one that begins as it ends
abbrev smallest_by : (List ℕ → List ℕ → Bool) → ℕ → List ℕ → List ℕ → Place
smallest_by alike = past (search_from (here_by alike) earlier) 0

abbrev smallest : ℕ → List ℕ → List ℕ → Place
smallest = smallest_by equal_turned

abbrev pub given_for_alike : ℕ → List ℕ → List ℕ → Place
given_for_alike = smallest_by (λ c s. false)

abbrev turned_for_alike : ℕ → List ℕ → List ℕ → Place
turned_for_alike = past (search_from turned_first earlier) 0

abbrev pub either_for_all : ℕ → List ℕ → List ℕ → Place
either_for_all = smallest_by (λ c s. true)

abbrev pub either_for_elsewhere : ℕ → List ℕ → List ℕ → Place
either_for_elsewhere = smallest_by elsewhere

abbrev either_by_ends : ℕ → List ℕ → List ℕ → Place
either_by_ends = smallest_by equal_ends

-- one direction only; the last start; starts counted from 1, or from the first start; the first start left out; the search
-- begun behind the first start
abbrev one_direction : ℕ → List ℕ → List ℕ → Place
one_direction = past (search_from given_only earlier) 0

abbrev last_start : ℕ → List ℕ → List ℕ → Place
last_start = past (search_from here later) 0

abbrev from_one : ℕ → List ℕ → List ℕ → Place
from_one = past (search_from here earlier) 1

abbrev from_first : ℕ → List ℕ → List ℕ → Place
from_first = past (λ i. search_from here earlier 0) 0

abbrev no_first : ℕ → List ℕ → List ℕ → Place
no_first k = search_from here earlier 0

abbrev behind_first : ℕ → List ℕ → List ℕ → Place
behind_first k = smallest (suc k)

pub smallest_is_ours : (k : ℕ) (c s : List ℕ) → smallest k c s ≡ place_of turned k c s
smallest_is_ours k c s = over k 0 s
  where
    or_later : (i : ℕ) (t u v : Bool) {p q : Place} → p ≡ q
        → earlier (choice t (choice v (either_at i) (given_at i)) (choice u (turned_at i) nowhere)) p
        ≡ choice t (choice v (either_at i) (given_at i)) (choice u (turned_at i) q)
    or_later i true u true e = refl
    or_later i true u false e = refl
    or_later i false true v e = refl
    or_later i false false v e = e

    from : (i : ℕ) (r : List ℕ) → search_from here earlier i c r ≡ place_from turned i c r
    from i [] = or_later i (begins c []) (begins (turned c) []) (same c (turned c)) refl
    from i (b ∷ r) = or_later i (begins c (b ∷ r)) (begins (turned c) (b ∷ r)) (same c (turned c)) (from (suc i) r)

    over : (k i : ℕ) (r : List ℕ) → past (search_from here earlier) i k c r ≡ place_past turned k i c r
    over zero i r = from i r
    over (suc k) i [] = refl
    over (suc k) i (b ∷ r) = over k (suc i) r

-- The start, if there is one.
abbrev start_in : Place → List ℕ
start_in (given_at i) = i ∷ []
start_in (turned_at i) = i ∷ []
start_in (either_at i) = i ∷ []
start_in nowhere = []

-- Given for what looks alike is document 01's own rule, which M-103 replaced: each place starts where it did.
pub starts_as_before : (k : ℕ) (c s : List ℕ) → start_in (place_of turned k c s) ≡ start_in (given_for_alike k c s)
starts_as_before k c s = over k 0 s
  where
    before : ℕ → List ℕ → List ℕ → Place
    before = search_from (here_by (λ c s. false)) earlier

    or_later : (i : ℕ) (t u v : Bool) (p q : Place) → start_in p ≡ start_in q
        → start_in (choice t (choice v (either_at i) (given_at i)) (choice u (turned_at i) p))
        ≡ start_in (earlier (choice t (given_at i) (choice u (turned_at i) nowhere)) q)
    or_later i true u true p q e = refl
    or_later i true u false p q e = refl
    or_later i false true v p q e = refl
    or_later i false false v p q e = e

    from : (i : ℕ) (r : List ℕ) → start_in (place_from turned i c r) ≡ start_in (before i c r)
    from i [] = or_later i (begins c []) (begins (turned c) []) (same c (turned c)) nowhere nowhere refl
    from i (b ∷ r) =
        or_later i (begins c (b ∷ r)) (begins (turned c) (b ∷ r)) (same c (turned c)) (place_from turned (suc i) c r)
        (before (suc i) c r) (from (suc i) r)

    over : (k i : ℕ) (r : List ℕ) → start_in (place_past turned k i c r) ≡ start_in (past before i k c r)
    over zero i r = from i r
    over (suc k) i [] = refl
    over (suc k) i (b ∷ r) = over k (suc i) r

-- what is seen of a place: its way as a number, and its start
abbrev seen : Place → List ℕ
seen (given_at i) = 0 ∷ i ∷ []
seen (turned_at i) = 1 ∷ i ∷ []
seen (either_at i) = 2 ∷ i ∷ []
seen nowhere = []

caught : (find : ℕ → List ℕ → List ℕ → Place) (k : ℕ) (c s : List ℕ)
    → same (seen (find k c s)) (seen (place_of turned k c s)) ≡ false → Finds turned find → ⊥
caught find k c s d h = differ d (ap seen (finds_only turning find h k c s))

pub not_given_for_alike : Finds turned given_for_alike → ⊥
unfolding turned
not_given_for_alike = caught given_for_alike 0 (text "ABA") (text "ABA") refl

pub not_turned_for_alike : Finds turned turned_for_alike → ⊥
unfolding turned
not_turned_for_alike = caught turned_for_alike 0 (text "A") (text "A") refl

pub not_either_for_all : Finds turned either_for_all → ⊥
unfolding turned
not_either_for_all = caught either_for_all 0 (text "AB") (text "AB") refl

pub not_either_for_elsewhere : Finds turned either_for_elsewhere → ⊥
unfolding turned
not_either_for_elsewhere = caught either_for_elsewhere 0 (text "AB") (text "ABBA") refl

pub not_either_by_ends : Finds turned either_by_ends → ⊥
unfolding turned
not_either_by_ends = caught either_by_ends 0 (text "ABBCA") (text "ABBCA") refl

pub not_one_direction : Finds turned one_direction → ⊥
unfolding turned
not_one_direction = caught one_direction 0 (text "AB") (text "BA") refl

pub not_last_start : Finds turned last_start → ⊥
unfolding turned
not_last_start = caught last_start 0 (text "A") (text "AA") refl

pub not_from_one : Finds turned from_one → ⊥
unfolding turned
not_from_one = caught from_one 0 (text "A") (text "A") refl

pub not_from_first : Finds turned from_first → ⊥
unfolding turned
not_from_first = caught from_first 1 (text "A") (text "AA") refl

pub not_no_first : Finds turned no_first → ⊥
unfolding turned
not_no_first = caught no_first 1 (text "A") (text "AA") refl

pub not_behind_first : Finds turned behind_first → ⊥
unfolding turned
not_behind_first = caught behind_first 0 (text "A") (text "A") refl
