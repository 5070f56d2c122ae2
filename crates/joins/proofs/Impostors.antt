-- Wrong ways of joining, each written out and caught by the claim on joining at a named list of codes.
-- The claim leaves no choice, so an impostor is caught where it makes other joins than ours. The rounds have their
-- parts open: the right rounds and the wrong ones are instances of one planner, and each wrong one differs in one part.
use mathlib.Core.Path.{◌≡◌, refl, ap}
use mathlib.Core.Bool.{Bool, true, false, ◌&&◌, not, ◌||◌}
use mathlib.Core.List.{List, [], ◌∷◌, map}
use Prim.Native.Nat.{ℕ, zero, suc, ◌+◌, ◌-◌, ◌*◌, ◌%◌}
use lib.Dec.{eqb, ltb}
use lib.ListN.{length}
use Rattle.words.specs.Tests.{same}
use Rattle.words.specs.Turn.{turned}
use Rattle.words.specs.Overlap.{overlap}
use Rattle.words.specs.Texts.{text}
use Rattle.words.proofs.Tests.{differ}
use Rattle.joins.specs.Faces.{mirror, Join, join, join_both}
use Rattle.joins.specs.Rules.{Joiner}
use Rattle.joins.specs.Rounds.{ends_piece, begins_piece, end_from_lem, allowed, lower, key, overlap_by, better}
use Rattle.joins.specs.Rounds.{Best, none, best, best_of, below, pairs, best_join, rounds_from, layout_of}
use Rattle.joins.proofs.Claims.{joiner_only}

-- The parts: which joins may be made after those made so far, which of two is better, at which best join the rounds
-- end, and what is made of the one taken.
record Planner : Type 0 where
  allows : ℕ → List Join → Join → Bool
  prefers : (ℕ → ℕ → ℕ) → List Join → Join → Join → Bool
  stops : (ℕ → ℕ → ℕ) → Join → Bool
  records : Join → List Join → List Join

abbrev plan_from : ℕ → Planner → ℕ → (ℕ → ℕ → ℕ) → List Join → List Join
plan_from zero P n w js = js
plan_from (suc f) P n w js =
    elim (best_of (P.prefers w js) (P.allows n js) (pairs (below (2 * n)) (below (2 * n)))) [
      | none ↦ js
      | best j ↦ elim (P.stops w j) [ true ↦ js | false ↦ plan_from f P n w (P.records j js) ]
    ]

-- as many rounds as there are codes after the first
abbrev plan : Planner → ℕ → (ℕ → ℕ → ℕ) → List Join
plan P n w = plan_from (n - 1) P n w []

-- The right planner, and those that differ from it in one part.
abbrev right : Planner
right =
    record {
      allows = allowed;
      prefers = λ w js. better w;
      stops = λ w j. false;
      records = λ j js. join_both j.left j.right js;
    }

abbrev allowing : (ℕ → List Join → Join → Bool) → Planner
allowing t = record { allows = t; prefers = right.prefers; stops = right.stops; records = right.records }

abbrev preferring : ((ℕ → ℕ → ℕ) → List Join → Join → Join → Bool) → Planner
preferring t = record { allows = right.allows; prefers = t; stops = right.stops; records = right.records }

abbrev stopping : ((ℕ → ℕ → ℕ) → Join → Bool) → Planner
stopping t = record { allows = right.allows; prefers = right.prefers; stops = t; records = right.records }

abbrev recording : (Join → List Join → List Join) → Planner
recording t = record { allows = right.allows; prefers = right.prefers; stops = right.stops; records = t }

pub right_is_ours : (n : ℕ) (w : ℕ → ℕ → ℕ) → plan right n w ≡ layout_of n w
right_is_ours n w = from (n - 1) []
  where
    from : (f : ℕ) (js : List Join) → plan_from f right n w js ≡ rounds_from f n w js
    from zero js = refl
    from (suc f) js = go (best_join n w js) refl (from f)
      where
        go : (x : Best) → best_join n w js ≡ x
            → ((ls : List Join) → plan_from f right n w ls ≡ rounds_from f n w ls)
            → plan_from (suc f) right n w js ≡ rounds_from (suc f) n w js
        go none e later = rw (e, plan_from, rounds_from)
        go (best j) e later = rw (e, plan_from, rounds_from) (later (join_both j.left j.right js))

-- Named lists of codes: face 2k is code k as given, 2k + 1 the same turned.
abbrev face_of : List (List ℕ) → ℕ → List ℕ
face_of [] f = []
face_of (c ∷ cs) zero = c
face_of (c ∷ cs) (suc zero) = turned c
face_of (c ∷ cs) (suc (suc f)) = face_of cs f

abbrev overlaps_of : List (List ℕ) → ℕ → ℕ → ℕ
overlaps_of cs a b = overlap (face_of cs a) (face_of cs b)

-- AB, CD: no two faces of different codes overlap
abbrev apart : List (List ℕ)
apart = text "AB" ∷ text "CD" ∷ []

-- AB, CB: AB overlaps with the second one turned
abbrev sharing : List (List ℕ)
sharing = text "AB" ∷ text "CB" ∷ []

-- ABB, CD: ABB overlaps with itself turned
abbrev self_sharing : List (List ℕ)
self_sharing = text "ABB" ∷ text "CD" ∷ []

-- ABC, BCD, EA: two bands from the first to the second, then one from the third to the first
abbrev chained : List (List ℕ)
chained = text "ABC" ∷ text "BCD" ∷ text "EA" ∷ []

-- ACB, BDA, CC: one band from the first to the second, and one back
abbrev ring : List (List ℕ)
ring = text "ACB" ∷ text "BDA" ∷ text "CC" ∷ []

-- Whoever makes other joins than ours at a list does not meet the claim.
abbrev faces_in : List Join → List ℕ
faces_in [] = []
faces_in (j ∷ js) = j.left ∷ (j.right ∷ faces_in js)

abbrev ours_at : List (List ℕ) → (ℕ → (ℕ → ℕ → ℕ) → List Join) → Bool
ours_at cs make =
    let n = length cs in
    same (faces_in (make n (overlaps_of cs))) (faces_in (layout_of n (overlaps_of cs)))

caught : {make : ℕ → (ℕ → ℕ → ℕ) → List Join} (cs : List (List ℕ)) → ours_at cs make ≡ false → Joiner make → ⊥
caught {make} cs e h =
    let r = ap faces_in (joiner_only make h (length cs) (overlaps_of cs)) in
    differ e r

-- Which of two joins is better: by overlap, and where they overlap alike by a comparison for ties.
abbrev ranked : (ℕ → ℕ → Bool) → (Join → Join → Bool) → (ℕ → ℕ → ℕ) → List Join → Join → Join → Bool
ranked more first w js j k =
    more (overlap_by w j) (overlap_by w k) || (eqb (overlap_by w k) (overlap_by w j) && first j k)

abbrev larger : ℕ → ℕ → Bool
larger x y = ltb y x

abbrev backward : Join → Join
backward j = join j.right j.left

-- ties to the last b; the lowest b before the lowest a; the smallest overlap first;
abbrev last_b : (ℕ → ℕ → ℕ) → List Join → Join → Join → Bool
last_b = ranked larger (λ j k. lower (key (join j.left k.right)) (key (join k.left j.right)))

abbrev lowest_b : (ℕ → ℕ → ℕ) → List Join → Join → Join → Bool
lowest_b = ranked larger (λ j k. lower (key (backward j)) (key (backward k)))

abbrev smallest_first : (ℕ → ℕ → ℕ) → List Join → Join → Join → Bool
smallest_first = ranked ltb (λ j k. lower (key j) (key k))

-- the best pair joined, then the rest in any order: overlaps are ignored, and the lowest pair is taken
abbrev best_pair_only : (ℕ → ℕ → ℕ) → List Join → Join → Join → Bool
best_pair_only w [] = better w
best_pair_only w (k ∷ ks) = better (λ a b. 0)

pub not_last_b : Joiner (plan (preferring last_b)) → ⊥
unfolding turned
not_last_b = caught apart refl

pub not_lowest_b : Joiner (plan (preferring lowest_b)) → ⊥
unfolding turned
not_lowest_b = caught apart refl

pub not_smallest_first : Joiner (plan (preferring smallest_first)) → ⊥
unfolding turned
not_smallest_first = caught sharing refl

pub not_best_pair_only : Joiner (plan (preferring best_pair_only)) → ⊥
unfolding turned
not_best_pair_only = caught chained refl

-- Which joins may be made: a face to its own mirror too, with the last test left out;
abbrev own_mirror : ℕ → List Join → Join → Bool
own_mirror n js j =
    ends_piece js j.left && (begins_piece js j.right && not (eqb (end_from_lem (2 * n) j.right js) j.left))

-- a piece closed on itself, with a different face asked for in place of a different piece;
abbrev closed : ℕ → List Join → Join → Bool
closed n js j =
    ends_piece js j.left
    && (begins_piece js j.right && (not (eqb j.right j.left) && not (eqb j.right (mirror j.left))))

-- all four tests, on the joins taken alone: their mirrors are made, and not counted when ends are marked used;
abbrev taken : List Join → List Join
taken [] = []
taken (j ∷ []) = j ∷ []
taken (j ∷ (m ∷ js)) = j ∷ taken js

abbrev mirror_uncounted : ℕ → List Join → Join → Bool
mirror_uncounted n js j =
    ends_piece (taken js) j.left
    && (ends_piece (map backward (taken js)) j.right
    && (not (eqb (end_from_lem (2 * n) j.right (taken js)) j.left) && not (eqb j.right (mirror j.left))))

-- codes never turned; each join on from where the last one went;
abbrev never_turned : ℕ → List Join → Join → Bool
never_turned n js j = allowed n js j && (eqb (j.left % 2) 0 && eqb (j.right % 2) 0)

abbrev on_from_last : ℕ → List Join → Join → Bool
on_from_last n [] j = allowed n [] j
on_from_last n (k ∷ ks) j = allowed n (k ∷ ks) j && eqb j.left k.right

-- end to end in list order, whatever the overlaps: 0 to 2, 2 to 4, and so on, since each round makes two joins
abbrev list_order : ℕ → List Join → Join → Bool
list_order n js j = eqb j.left (length js) && eqb j.right (2 + length js)

pub not_own_mirror : Joiner (plan (allowing own_mirror)) → ⊥
unfolding turned
not_own_mirror = caught self_sharing refl

pub not_closed : Joiner (plan (allowing closed)) → ⊥
unfolding turned
not_closed = caught ring refl

pub not_mirror_uncounted : Joiner (plan (allowing mirror_uncounted)) → ⊥
unfolding turned
not_mirror_uncounted = caught ring refl

pub not_never_turned : Joiner (plan (allowing never_turned)) → ⊥
unfolding turned
not_never_turned = caught sharing refl

pub not_on_from_last : Joiner (plan (allowing on_from_last)) → ⊥
unfolding turned
not_on_from_last = caught chained refl

pub not_list_order : Joiner (plan (allowing list_order)) → ⊥
unfolding turned
not_list_order = caught sharing refl

-- When the rounds end: when the best overlap is 0; at once, as if no join were allowed
abbrev at_zero : (ℕ → ℕ → ℕ) → Join → Bool
at_zero w j = eqb (overlap_by w j) 0

abbrev at_once : (ℕ → ℕ → ℕ) → Join → Bool
at_once w j = true

pub not_stopped_at_zero : Joiner (plan (stopping at_zero)) → ⊥
unfolding turned
not_stopped_at_zero = caught apart refl

pub not_stopped_at_once : Joiner (plan (stopping at_once)) → ⊥
unfolding turned
not_stopped_at_once = caught sharing refl

-- What is made: the join without its mirror; for its mirror, the join from a's mirror to b's
abbrev unmirrored : Join → List Join → List Join
unmirrored j js = j ∷ js

abbrev mirrored_forward : Join → List Join → List Join
mirrored_forward j js = j ∷ (join (mirror j.left) (mirror j.right) ∷ js)

pub not_unmirrored : Joiner (plan (recording unmirrored)) → ⊥
unfolding turned
not_unmirrored = caught apart refl

pub not_mirrored_forward : Joiner (plan (recording mirrored_forward)) → ⊥
unfolding turned
not_mirrored_forward = caught apart refl
