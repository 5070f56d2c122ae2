-- Wrong calls that check a ribbon, each written out and caught by the claim on a named list, ribbon and records.
use mathlib.Core.Path.{ap}
use mathlib.Core.Logic.{◌≢◌}
use mathlib.Core.Bool.{◌&&◌, not}
use mathlib.Core.List.{List, [], ◌∷◌}
use Prim.Native.Nat.{ℕ, suc}
use native.Mathlib.Omega.{arith}
use lib.Dec.{eqb, ltb}
use lib.IntN.{pos, negsuc}
use lib.ListN.{length, replicate}
use Rattle.words.specs.Tests.{pick}
use Rattle.words.specs.Texts.{text}
use Rattle.words.specs.Turn.{turned}
use Rattle.words.specs.Place.{Place, given_at, turned_at, either_at, nowhere}
use Rattle.words.proofs.Impostors.{given_for_alike, either_for_all, either_for_elsewhere}
use Rattle.lists.specs.Refusals.{whole, long_ribbon_number, unknown_colour_number, short_buffer_number}
use Rattle.lists.specs.Outcome.{outcome}
use Rattle.lists.specs.Runs.{codes_in, over}
use Rattle.lists.specs.Fit.{all_bands_lem}
use Rattle.greedy.specs.Layout.{ribbon_for, saved_by}
use Rattle.checking.specs.Check.{none_missing, missing, missing_on}
use Rattle.checking.specs.Answers.{PlaceRecord, CheckOutcome, refused, missing_code, held, Checks, less, records_from}
use Rattle.checking.specs.Answers.{check_outcome}
use Rattle.checking.proofs.Answers.{checks_only}

abbrev Call : Type 0
Call = List ℕ → List ℕ → List ℕ → List PlaceRecord → CheckOutcome

-- so many records of a code 7 at 7
abbrev sevens : ℕ → List PlaceRecord
sevens n = replicate n (record { code = 7; place = given_at 7 })

-- a list, a ribbon and so many records; the list AB, cut by some lengths; AB alone
caught_on : (run ls : List ℕ) (call : Call) (row : List ℕ) (n : ℕ) (look : CheckOutcome → ℕ)
    → look (call run ls row (sevens n)) ≢ look (check_outcome run ls row (sevens n)) → Checks call → ⊥
caught_on run ls call row n look d h = d (ap look (checks_only call h run ls row (sevens n)))

caught_by : (ls : List ℕ) (call : Call) (row : List ℕ) (n : ℕ) (look : CheckOutcome → ℕ)
    → look (call (text "AB") ls row (sevens n)) ≢ look (check_outcome (text "AB") ls row (sevens n)) → Checks call → ⊥
caught_by = caught_on (text "AB")

caught : (call : Call) (row : List ℕ) (n : ℕ) (look : CheckOutcome → ℕ)
    → look (call (text "AB") (2 ∷ []) row (sevens n)) ≢ look (check_outcome (text "AB") (2 ∷ []) row (sevens n))
    → Checks call → ⊥
caught = caught_by (2 ∷ [])

-- what an answer is, as a number: a refusal's, 100 for missing, 200 for held and 300 for held below zero
abbrev kind : CheckOutcome → ℕ
kind o = elim o.answer [ refused r ↦ r.number | missing_code k ↦ 100 | held (pos n) ↦ 200 | held (negsuc n) ↦ 300 ]

abbrev first_code : CheckOutcome → ℕ
first_code o = elim o.after [ [] ↦ 0 | r ∷ rs ↦ r.code ]

-- the difference the wrong way round; on ABC
abbrev backwards : Call
backwards run ls row records =
    let o = check_outcome run ls row records in
    elim o.answer [
      | refused r ↦ o
      | missing_code k ↦ o
      | held d ↦ outcome (held (less (length (ribbon_for turned (codes_in run ls))) (length row))) o.after
    ]

pub not_backwards : Checks backwards → ⊥
unfolding turned
not_backwards = caught backwards (text "ABC") 1 kind (λ e. omega arith)

-- records numbered from 1; records untouched
abbrev from_one : Call
from_one run ls row records =
    outcome (check_outcome run ls row records).answer (over (records_from 1 (codes_in run ls) row) records)

pub not_from_one : Checks from_one → ⊥
unfolding turned
not_from_one = caught from_one (text "AB") 1 first_code (λ e. omega arith)

abbrev untouched : Call
untouched run ls row records = outcome (check_outcome run ls row records).answer records

pub not_untouched : Checks untouched → ⊥
unfolding turned
not_untouched = caught untouched (text "AB") 1 first_code (λ e. omega arith)

-- Ways: given for a code that looks alike, on ABA; either for every code, on AB; either where the turned form stands elsewhere,
-- on AB and the ribbon ABBA
abbrev records_by : (ℕ → List ℕ → List ℕ → Place) → ℕ → List (List ℕ) → List ℕ → List PlaceRecord
records_by find i [] row = []
records_by find i (c ∷ cs) row = record { code = i; place = find 0 c row } ∷ records_by find (suc i) cs row

abbrev placed_by : (ℕ → List ℕ → List ℕ → Place) → Call
placed_by find run ls row records =
    outcome (check_outcome run ls row records).answer (over (records_by find 0 (codes_in run ls) row) records)

abbrev way_number : Place → ℕ
way_number p = elim p [ given_at i ↦ 0 | turned_at i ↦ 1 | either_at i ↦ 2 | nowhere ↦ 3 ]

abbrev first_way : CheckOutcome → ℕ
first_way o = elim o.after [ [] ↦ 3 | r ∷ rs ↦ way_number r.place ]

pub not_given_for_alike : Checks (placed_by given_for_alike) → ⊥
unfolding turned
not_given_for_alike =
    caught_on (text "ABA") (3 ∷ []) (placed_by given_for_alike) (text "ABA") 1 first_way (λ e. omega arith)

pub not_either_for_all : Checks (placed_by either_for_all) → ⊥
unfolding turned
not_either_for_all = caught (placed_by either_for_all) (text "AB") 1 first_way (λ e. omega arith)

pub not_either_for_elsewhere : Checks (placed_by either_for_elsewhere) → ⊥
unfolding turned
not_either_for_elsewhere = caught (placed_by either_for_elsewhere) (text "ABBA") 1 first_way (λ e. omega arith)

-- a record touched where a code is missing; on no bands
abbrev touched_missing : Call
touched_missing run ls row records =
    outcome (check_outcome run ls row records).answer (over (records_from 0 (codes_in run ls) row) records)

pub not_touched_missing : Checks touched_missing → ⊥
unfolding turned
not_touched_missing = caught touched_missing [] 1 first_code (λ e. omega arith)

-- 13 given where a code is missing; on no bands and with no records
abbrev short_first : Call
short_first run ls row records =
    pick (ltb (length records) (length ls)) (outcome (refused (whole short_buffer_number)) records) (check_outcome run ls row records)

pub not_short_first : Checks short_first → ⊥
unfolding turned
not_short_first = caught short_first [] 0 kind (λ e. omega arith)

-- the retired number, 14, where several codes share nothing, as if no join of overlap 0 were allowed; on A and B
abbrev retired_number : Call
retired_number run ls row records =
    pick
    (ltb 1 (length ls) && eqb (saved_by turned (codes_in run ls)) 0)
    (outcome (refused (whole 14)) records)
    (check_outcome run ls row records)

pub not_retired_number : Checks retired_number → ⊥
unfolding turned
not_retired_number = caught_by (1 ∷ 1 ∷ []) retired_number (text "AB") 2 kind (λ e. omega arith)

-- 15 before 12; on a length of 3 for AB, and 16,385 As
abbrev long_first : Call
long_first run ls row records =
    pick (ltb 16384 (length row)) (outcome (refused (whole long_ribbon_number)) records) (check_outcome run ls row records)

pub not_long_first : Checks long_first → ⊥
unfolding turned
not_long_first = caught_by (3 ∷ []) long_first (replicate 16385 65) 1 kind (λ e. omega arith)

-- missing before 8; on a space
abbrev missing_first : Call
missing_first run ls row records =
    elim (missing_on turned (codes_in run ls) row) [
      | missing k ↦ outcome (missing_code k) records
      | none_missing ↦ check_outcome run ls row records
    ]

pub not_missing_first : Checks missing_first → ⊥
unfolding turned
not_missing_first = caught missing_first (text " ") 1 kind (λ e. omega arith)

-- 8 before 15; on 16,385 bytes that are no bands
abbrev colour_first : Call
colour_first run ls row records =
    pick
    (ltb 16384 (length row) && not (all_bands_lem row))
    (outcome (refused (whole unknown_colour_number)) records)
    (check_outcome run ls row records)

pub not_colour_first : Checks colour_first → ⊥
unfolding turned
not_colour_first = caught colour_first (replicate 16385 0) 1 kind (λ e. omega arith)

-- 15 from 16,384 bands on; on as many As
abbrev long_from16384 : Call
long_from16384 run ls row records =
    pick (eqb (length row) 16384) (outcome (refused (whole long_ribbon_number)) records) (check_outcome run ls row records)

pub not_long_from_16384 : Checks long_from16384 → ⊥
unfolding turned
not_long_from_16384 = caught long_from16384 (replicate 16384 65) 1 kind (λ e. omega arith)
