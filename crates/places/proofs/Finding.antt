-- The search for places, code after code: the codes so far stand in the run one behind the other, and their records at the
-- front of a row. A code starts where the one before it ends, and its place starts within the ribbon, so a record holds it.
-- No record is of no place, so the code at which the search stops is the lowest that is missing.
use mathlib.Core.Path.{◌≡◌, refl, sym, ap, ap₂, subst, ◌∙◌}
use mathlib.Core.Bool.{true, false, true≢false}
use mathlib.Core.List.{List, [], ◌∷◌, ◌++◌, map-append}
use Prim.Native.Nat.{ℕ, zero, suc, ◌+◌, ◌≤◌, ◌<◌}
use native.Mathlib.Nat.{add-zero}
use native.Mathlib.Numerals.{add-one}
use native.Mathlib.Omega.{arith}
use lib.ListN.{length, take, drop, get_or, set, length-set}
use lib.Seq.{take-suc, take-suc-set, take_all, length-take-le, get_or-take, get_or-drop, drop-drop, drop-set-lt}
use Rattle.words.specs.Turn.{turned}
use Rattle.words.specs.Lists.{Each}
use Rattle.words.specs.Stand.{StandsSomeWay}
use Rattle.words.specs.Place.{Place, IsPlace, is_given, is_turned, is_either, is_nowhere, place_of, found}
use Rattle.words.proofs.Deciding.{holds, fails, passes}
use Rattle.words.proofs.Lists.{each_in}
use Rattle.words.proofs.Standing.{stands_length}
use Rattle.words.proofs.Placing.{finds_ours, found_exactly}
use Rattle.lists.specs.Runs.{codes_in, total}
use Rattle.lists.specs.Fit.{list_ok_lem}
use Rattle.lists.specs.Rules.{CodeRule, FitList}
use Rattle.lists.proofs.Runs.{codes_count, adds_up}
use Rattle.lists.proofs.Rules.{is_fit_list}
use Rattle.greedy.specs.Dropping.{code_at}
use Rattle.greedy.specs.Rules.{AllStand}
use Rattle.greedy.proofs.Keeping.{code_in_lem}
use Rattle.parts.proofs.Cutting.{code_at_lem, total_part, fit_size, fit_small}
use Rattle.places.specs.declared.Place as declared
use Rattle.finding.specs.declared.Way.{Way}
use Rattle.finding.specs.declared.Way.TheVariants.{Given, Turned, Either}
use Rattle.places.specs.Starts.{StartsWithin}
use Rattle.checking.specs.Check.{none_missing, missing, all_held, lowest, missing_on}
use Rattle.checking.specs.Answers.{PlaceRecord, records_from}
use Rattle.places.specs.Calls.{way_at, record_of_lem, records_of, blanks, FindsPlaces}
use Rattle.checking.proofs.Check.{misses_ours, missing_one}

-- a place on a row starts within it
pub starts_within : (c row : List ℕ) {n : ℕ} → length row ≤ n → found (place_of turned 0 c row) ≡ true
    → StartsWithin n (place_of turned 0 c row)
starts_within c row {n} l = of (finds_ours turned 0 c row)
  where
    of : {p : Place} → IsPlace turned 0 c row p → found p ≡ true → StartsWithin n p
    of (is_given z d h o) e = omega (arith, l, h.start, stands_length h.stands)
    of (is_turned z d h o) e = omega (arith, l, h.start, stands_length h.stands)
    of (is_either z a h o) e = omega (arith, l, h.start, stands_length h.stands)
    of (is_nowhere x) e = absurd (true≢false (sym e))

-- one code more
records_more : (k : ℕ) (cs : List (List ℕ)) (c row : List ℕ)
    → records_from k (cs ++ (c ∷ [])) row
    ≡ records_from k cs row ++ (record { code = k + length cs; place = place_of turned 0 c row } ∷ [])
records_more k [] c row =
    let e : k ≡ k + 0 = omega arith in
    ap {B = List PlaceRecord} (λ (n : ℕ). record { code = n; place = place_of turned 0 c row } ∷ []) e
records_more k (d ∷ cs) c row =
    let e : suc k + length cs ≡ k + suc (length cs) = omega arith in
    ap (λ (rs : List PlaceRecord). record { code = k; place = place_of turned 0 d row } ∷ rs)
    (records_more (suc k) cs c row
    ∙ ap (λ (n : ℕ). records_from (suc k) cs row ++ (record { code = n; place = place_of turned 0 c row } ∷ [])) e)

-- The code that starts where those before it end lies in the run.
module _ {run ls : List ℕ} (F : FitList run ls) {at i : ℕ} (there : at ≡ total (take i ls)) (h : i < length ls) where
  pub next_in : (at + get_or ls i 0 ≤ length run) × (at + get_or ls i 0 < 65536) × (i < 128) × (1 ≤ get_or ls i 0)
      × (get_or ls i 0 ≤ 64)
  next_in =
      let e = adds_up run ls F.joined F.as_long in (
        omega (arith, e, total_part ls i h),
        omega (arith, total_part ls i h, fit_small F),
        omega (arith, F.at_most),
        (fit_size F i h).0,
        (fit_size F i h).1,
      )

  pub next_is : take (get_or ls i 0) (drop at run) ≡ code_at (codes_in run ls) i
  next_is = ap (λ (k : ℕ). take (get_or ls i 0) (drop k run)) there ∙ sym (code_at_lem run ls i h)

-- The first i codes have places, whose records stand at the front, and the others are left.
pub record Finding (run ls row : List ℕ) (all : List declared.Place) (i : ℕ) (left : List (List ℕ)) : Type 0 where
  pub bound : i + length left ≡ length ls
  pub are_left : left ≡ drop i (codes_in run ls)
  pub room : length all ≡ 128
  pub are : records_of (take i all) ≡ records_from 0 (take i (codes_in run ls)) row
  pub rest : drop i all ≡ drop i blanks

blanks_long : length blanks ≡ 128
unfolding blanks
blanks_long = refl

pub finding_none : (run ls row : List ℕ) (all : List declared.Place) → all ≡ blanks → Finding run ls row all 0 (codes_in run ls)
finding_none run ls row all e =
    record {
      bound = omega (arith, codes_count run ls);
      are_left = refl;
      room = ap length e ∙ blanks_long;
      are = refl;
      rest = e;
    }

module _ {run ls row : List ℕ} {all : List declared.Place} {i : ℕ} {left : List (List ℕ)} (f : Finding run ls row all i left) where
  module _ {c : List ℕ} {more : List (List ℕ)} (s : left ≡ c ∷ more) where
    listed : i < length ls
    listed = omega (arith, f.bound, ap length s)

    here : drop i (codes_in run ls) ≡ c ∷ more
    here = sym f.are_left ∙ s

    code_is : c ≡ code_at (codes_in run ls) i
    code_is =
        let cs = codes_in run ls in
        sym (ap (λ (ds : List (List ℕ)). get_or ds 0 []) here) ∙ get_or-drop i cs 0 [] ∙ ap (λ (k : ℕ). code_at cs k) (add-zero i)

    pub next_fits : list_ok_lem run ls ≡ true → (i < 128) × (0 < length c) × (length c ≤ 64)
    next_fits ok =
        let cs = codes_in run ls in
        let F = holds (is_fit_list run ls) ok in
        let m : i < length cs = omega (arith, codes_count run ls, listed) in
        let r : CodeRule c = rw code_is (each_in CodeRule cs (code_at cs i) F.coded (code_in_lem cs i m)) in
        (omega (arith, F.at_most, listed), r.0, r.1)

    pub finding_next : list_ok_lem run ls ≡ true → (p : declared.Place)
        → record_of_lem p ≡ record { code = i; place = place_of turned 0 c row } → Finding run ls row (set all i p) (i + 1) more
    finding_next ok p e =
        record {
          bound = omega (arith, f.bound, ap length s);
          are_left = sym (ap (drop 1) here) ∙ drop-drop 1 i (codes_in run ls);
          room = length-set all i p ∙ f.room;
          are = rw add-one news;
          rest =
              drop-set-lt (i + 1) all i p (omega arith) ∙ sym (drop-drop 1 i all) ∙ ap (drop 1) f.rest
              ∙ drop-drop 1 i blanks;
        }
      where
        news : records_of (take (suc i) (set all i p)) ≡ records_from 0 (take (suc i) (codes_in run ls)) row
        news =
            let cs = codes_in run ls in
            let l : i < length all = omega (arith, (next_fits ok).0, f.room) in
            let m : i < length cs = omega (arith, codes_count run ls, listed) in
            let n : 0 + length (take i cs) ≡ i = omega (arith, length-take-le i cs (omega arith)) in
            ap records_of (take-suc-set all i p l)
            ∙ map-append record_of_lem (take i all) (p ∷ [])
            ∙ ap₂ (λ (rs : List PlaceRecord) (r : PlaceRecord). rs ++ (r ∷ [])) f.are
            (e ∙ ap (λ (d : List ℕ). record { code = i; place = place_of turned 0 d row }) code_is)
            ∙ sym (ap (λ (ds : List (List ℕ)). records_from 0 ds row) (take-suc cs i [] m)
            ∙ records_more 0 (take i cs) (code_at cs i) row
            ∙ ap (λ (k : ℕ). records_from 0 (take i cs) row ++ (record { code = k; place = place_of turned 0 (code_at cs i) row } ∷ [])) n)

    -- it has no place
    pub finding_stops : found (place_of turned 0 c row) ≡ false → FindsPlaces run ls row i all
    finding_stops e =
        record {
          within = omega (arith, f.bound);
          room = f.room;
          are = f.are;
          rest = f.rest;
          stops = λ _. ap (λ (d : List ℕ). found (place_of turned 0 d row)) (sym code_is) ∙ e;
        }

  -- all codes are done
  pub finding_all : left ≡ [] → FindsPlaces run ls row (length ls) all
  finding_all e =
      let n : i ≡ length ls = omega (arith, f.bound, ap length e) in
      rw (← n)
      (record {
        within = omega arith;
        room = f.room;
        are = f.are;
        rest = f.rest;
        stops = λ l. absurd (omega arith);
      })

-- What the search for places tells: the codes whose records it has stand on the row, since no record is of no place.
pub way_found : (w : Way ℕ) → found (way_at w) ≡ true
way_found (Given i) = refl
way_found (Turned i) = refl
way_found (Either i) = refl

each_found : (row : List ℕ) (i : ℕ) (cs : List (List ℕ)) (ps : List declared.Place) → records_of ps ≡ records_from i cs row
    → Each (λ (c : List ℕ). StandsSomeWay turned c row) cs
each_found row i [] ps e = tt
each_found row i (c ∷ cs) [] e = absurd (omega (arith, ap length e))
each_found row i (c ∷ cs) (p ∷ ps) e =
    let one : record_of_lem p ≡ record { code = i; place = place_of turned 0 c row } = cc in
    let more : records_of ps ≡ records_from (suc i) cs row = cc in
    let f : way_at p.way ≡ place_of turned 0 c row = ap (λ (r : PlaceRecord). r.place) one in
    (holds (found_exactly turned c row) (ap found (sym f) ∙ way_found p.way), each_found row (suc i) cs ps more)

-- the record of code i has its place
abbrev unset : declared.Place
unset = record { code = 0; way = Given 0 }

abbrev pub nth_place : List declared.Place → ℕ → declared.Place
nth_place ps i = get_or ps i unset

nth_is : (row : List ℕ) (k : ℕ) (cs : List (List ℕ)) (ps : List declared.Place) → records_of ps ≡ records_from k cs row → (i : ℕ)
    → i < length cs → way_at (nth_place ps i).way ≡ place_of turned 0 (code_at cs i) row
nth_is row k [] ps e i h = absurd (omega arith)
nth_is row k (c ∷ cs) [] e i h = absurd (omega (arith, ap length e))
nth_is row k (c ∷ cs) (p ∷ ps) e zero h =
    let one : record_of_lem p ≡ record { code = k; place = place_of turned 0 c row } = cc in
    ap (λ (r : PlaceRecord). r.place) one
nth_is row k (c ∷ cs) (p ∷ ps) e (suc i) h = nth_is row (suc k) cs ps (cc) i (omega arith)

module _ {run ls row : List ℕ} {count : ℕ} {all : List declared.Place} (p : FindsPlaces run ls row count all) where
  stand : AllStand turned (take count (codes_in run ls)) row
  stand = each_found row 0 (take count (codes_in run ls)) (take count all) p.are

  pub place_is : (i : ℕ) → i < count → way_at (nth_place all i).way ≡ place_of turned 0 (code_at (codes_in run ls) i) row
  place_is i h =
      let cs = codes_in run ls in
      let l : count ≤ length cs = omega (arith, p.within, codes_count run ls) in
      let m : i < length (take count cs) = omega (arith, length-take-le count cs l) in
      rw (get_or-take count all i unset h, get_or-take count cs i [] h)
      at (nth_is row 0 (take count cs) (take count all) p.are i m)

  stands_below : (j : ℕ) → j < count → StandsSomeWay turned (code_at (codes_in run ls) j) row
  stands_below j h =
      let cs = codes_in run ls in
      let m : j < length (take count cs) = omega (arith, length-take-le count cs (omega (arith, codes_count run ls, p.within))) in
      subst (λ (c : List ℕ). StandsSomeWay turned c row) (get_or-take count cs j [] h)
      (each_in (λ (c : List ℕ). StandsSomeWay turned c row) (take count cs) (code_at (take count cs) j) stand (code_in_lem (take count cs) j m))

  pub found_below : (j : ℕ) → j < count → found (place_of turned 0 (code_at (codes_in run ls) j) row) ≡ true
  found_below j h = passes (found_exactly turned (code_at (codes_in run ls) j) row) (stands_below j h)

  pub count_missing : count < length ls → missing_on turned (codes_in run ls) row ≡ missing count
  count_missing l =
      let cs = codes_in run ls in
      let m : count < length cs = omega (arith, codes_count run ls) in
      missing_one (misses_ours turned cs row)
      (lowest m (fails (found_exactly turned (code_at cs count) row) (p.stops l)) stands_below)

  module _ (l : length ls ≤ count) where
    whole_list : take count (codes_in run ls) ≡ codes_in run ls
    whole_list = take_all count (codes_in run ls) (omega (arith, codes_count run ls))

    pub none_is_missing : missing_on turned (codes_in run ls) row ≡ none_missing
    none_is_missing =
        missing_one (misses_ours turned (codes_in run ls) row)
        (all_held (subst (λ (cs : List (List ℕ)). AllStand turned cs row) whole_list stand))

    pub records_are : records_of (take count all) ≡ records_from 0 (codes_in run ls) row
    records_are = p.are ∙ ap (λ (cs : List (List ℕ)). records_from 0 cs row) whole_list
