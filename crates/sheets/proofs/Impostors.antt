-- Wrong calls that write a sheet, each written out and caught by the claim on a named list and buffer. The claim leaves
-- one outcome, so an impostor is caught where its answer, or what it leaves in the buffer, is not that of ours.
use mathlib.Core.Path.{◌≡◌, refl, ap, ap₂}
use mathlib.Core.Bool.{Bool, true, false, ◌&&◌, ◌||◌, not}
use mathlib.Core.List.{List, [], ◌∷◌, ◌++◌, map, zip, zip_with}
use Prim.Native.Nat.{ℕ, zero, suc, ◌+◌, ◌-◌}
use lib.Dec.{eqb, ltb, leb}
use lib.ListN.{length, take, replicate}
use Rattle.words.specs.Tests.{pick, same}
use Rattle.words.specs.Turn.{turned}
use Rattle.words.specs.Texts.{text}
use Rattle.words.specs.Stand.{begins}
use Rattle.words.specs.Place.{Place, given_at, turned_at, either_at, nowhere, place_of}
use Rattle.words.specs.Count.{count_of}
use Rattle.words.proofs.Tests.{differ}
use Rattle.words.proofs.Impostors.{given_for_alike, either_for_all, either_for_elsewhere}
use Rattle.lists.specs.Refusals.{whole, false_list_number, short_buffer_number, when, first_of}
use Rattle.lists.specs.Outcome.{outcome}
use Rattle.lists.specs.Runs.{codes_in, flat, lengths, over}
use Rattle.lists.specs.Fit.{is_in, list_ok_lem, names_ok_lem}
use Rattle.grammar.specs.Quoting.{field_text}
use Rattle.grammar.proofs.Quoting.{undoubled}
use Rattle.greedy.specs.Dropping.{kept}
use Rattle.greedy.specs.Layout.{ribbon_for, saved_by}
use Rattle.sheets.specs.Decimal.{decimal}
use Rattle.sheets.specs.Sheet.{row_text, sheet_heading, bands_at, place_fields, code_rows, sheet_text_lem}
use Rattle.sheets.specs.Answers.{SheetAnswer, SheetOutcome, refused, written, Sheets, sheet_for, sheet_outcome}
use Rattle.sheets.proofs.Answers.{sheets_only}

-- A writer of sheets, where all is open that can go wrong: which rows in which order, how a name is written, the place,
-- how a start is written, which bands, and what stands behind them for a code of these codes.
abbrev Entry : Type 0
Entry = List ℕ × List ℕ

module _ (order : List (List ℕ) → List Entry → List Entry) (field : List ℕ → List ℕ)
    (place : List ℕ → List ℕ → Place) (start : ℕ → List ℕ) (bands : List ℕ → List ℕ → ℕ → List ℕ)
    (places : List (List ℕ) → List ℕ → List ℕ → List (List ℕ)) where
  abbrev fields_by : List (List ℕ) → List ℕ → List ℕ → Place → List (List ℕ)
  fields_by codes code ribbon (given_at i) = text "given" ∷ start i ∷ bands code ribbon i ∷ places codes code ribbon
  fields_by codes code ribbon (turned_at i) = text "turned" ∷ start i ∷ bands code ribbon i ∷ places codes code ribbon
  fields_by codes code ribbon (either_at i) = text "either" ∷ start i ∷ bands code ribbon i ∷ places codes code ribbon
  fields_by codes code ribbon nowhere = []

  abbrev rows_by : List (List ℕ) → List ℕ → List Entry → List ℕ
  rows_by codes ribbon es =
      flat (map (λ (e : Entry). row_text (field e.0 ∷ fields_by codes e.1 ribbon (place e.1 ribbon))) es)

  abbrev write_by : List (List ℕ) → List (List ℕ) → List ℕ
  write_by names codes = row_text sheet_heading ++ rows_by codes (ribbon_for turned codes) (order codes (zip names codes))

-- a call that writes so, and asks of the list what it asks
abbrev Call : Type 0
Call = List ℕ → List ℕ → List ℕ → List ℕ → List ℕ → SheetOutcome

abbrev call_by : (List ℕ → List ℕ → List ℕ → List ℕ → Bool) → (List (List ℕ) → List (List ℕ) → List ℕ) → Call
call_by ok write run ls name_run name_ls buffer =
    let cs = codes_in run ls in
    let sheet = write (codes_in name_run name_ls) cs in
    let f = first_of (when (not (ok run ls name_run name_ls)) false_list_number)
    (when (ltb (length buffer) (length sheet)) short_buffer_number) in
    elim (eqb f 0) [
      | true ↦ outcome (written (length sheet) (saved_by turned cs)) (over sheet buffer)
      | false ↦ outcome (refused (whole f)) buffer
    ]

-- The right ones: every entry in list order, the bands that stand there, how often they do, codes and names checked.
abbrev listed : List (List ℕ) → List Entry → List Entry
listed cs es = es

abbrev standing : List ℕ → List ℕ → ℕ → List ℕ
standing code ribbon i = bands_at ribbon (length code) i

abbrev how_often : List (List ℕ) → List ℕ → List ℕ → List (List ℕ)
how_often codes code ribbon = decimal (count_of turned code ribbon) ∷ []

abbrev checked : List ℕ → List ℕ → List ℕ → List ℕ → Bool
checked run ls name_run name_ls = list_ok_lem run ls && names_ok_lem (length ls) name_run name_ls

pub right_sheet_is_ours : (names codes : List (List ℕ))
    → write_by listed field_text (place_of turned 0) decimal standing how_often names codes ≡ sheet_text_lem names codes
unfolding zip zip_with
right_sheet_is_ours names codes = ap (λ (r : List ℕ). row_text sheet_heading ++ r) (rows names codes)
  where
    ribbon : List ℕ
    ribbon = ribbon_for turned codes

    fields : (c : List ℕ) (p : Place)
        → fields_by listed field_text (place_of turned 0) decimal standing how_often codes c ribbon p
        ≡ place_fields ribbon (length c) p (count_of turned c ribbon)
    fields c (given_at i) = refl
    fields c (turned_at i) = refl
    fields c (either_at i) = refl
    fields c nowhere = refl

    rows : (ns cs : List (List ℕ))
        → rows_by listed field_text (place_of turned 0) decimal standing how_often codes ribbon (zip ns cs)
        ≡ code_rows ns cs ribbon
    rows [] cs = refl
    rows (n ∷ ns) [] = refl
    rows (n ∷ ns) (c ∷ cs) =
        ap₂ (λ (fs : List (List ℕ)) (r : List ℕ). row_text (field_text n ∷ fs) ++ r)
        (fields c (place_of turned 0 c ribbon)) (rows ns cs)

pub right_call_is_ours : (run ls name_run name_ls buffer : List ℕ)
    → call_by checked sheet_text_lem run ls name_run name_ls buffer ≡ sheet_outcome run ls name_run name_ls buffer
right_call_is_ours run ls name_run name_ls buffer = refl

-- what is seen of a call: the numbers of its answer, and the buffer after it
abbrev numbers : SheetAnswer → List ℕ
numbers (refused r) = r.number ∷ r.row ∷ []
numbers (written bytes saved) = 0 ∷ bytes ∷ saved ∷ []

abbrev seen : SheetOutcome → List ℕ
seen o = numbers o.answer ++ o.after

abbrev call_on : Call → List (List ℕ) → List (List ℕ) → List ℕ → SheetOutcome
call_on call names codes buffer = call (flat codes) (lengths codes) (flat names) (lengths names) buffer

caught : (call : Call) (names codes : List (List ℕ)) (buffer : List ℕ)
    → same (seen (call_on call names codes buffer)) (seen (call_on sheet_outcome names codes buffer)) ≡ false
    → Sheets call → ⊥
caught call names codes buffer d h =
    differ d (ap seen (sheets_only call h (flat codes) (lengths codes) (flat names) (lengths names) buffer))

-- enough room for the sheets below
abbrev room : List ℕ
room = replicate 99 7

abbrev two : List (List ℕ)
two = text "P" ∷ text "Q" ∷ []

abbrev twice : List (List ℕ)
twice = text "P" ∷ text "P" ∷ []

abbrev apart : List (List ℕ)
apart = text "AB" ∷ text "CD" ∷ []

-- Rows: a dropped code without one; kept codes first; in the order of the ribbon.
abbrev kept_only : List (List ℕ) → List Entry → List Entry
kept_only cs [] = []
kept_only cs (e ∷ es) = pick (is_in e.1 (kept turned cs)) (e ∷ kept_only cs es) (kept_only cs es)

abbrev dropped_only : List (List ℕ) → List Entry → List Entry
dropped_only cs [] = []
dropped_only cs (e ∷ es) = pick (is_in e.1 (kept turned cs)) (dropped_only cs es) (e ∷ dropped_only cs es)

abbrev kept_first : List (List ℕ) → List Entry → List Entry
kept_first cs es = kept_only cs es ++ dropped_only cs es

abbrev start_of : Place → ℕ
start_of (given_at i) = i
start_of (turned_at i) = i
start_of (either_at i) = i
start_of nowhere = 0

abbrev insert : List ℕ → Entry → List Entry → List Entry
insert ribbon e [] = e ∷ []
insert ribbon e (f ∷ fs) =
    pick (leb (start_of (place_of turned 0 e.1 ribbon)) (start_of (place_of turned 0 f.1 ribbon))) (e ∷ (f ∷ fs))
    (f ∷ insert ribbon e fs)

abbrev along_ribbon : List (List ℕ) → List Entry → List Entry
along_ribbon cs [] = []
along_ribbon cs (e ∷ es) = insert (ribbon_for turned cs) e (along_ribbon cs es)

abbrev rows_in : (List (List ℕ) → List Entry → List Entry) → Call
rows_in order = call_by checked (write_by order field_text (place_of turned 0) decimal standing how_often)

-- B and ABC, of which B is dropped
pub not_kept_only : Sheets (rows_in kept_only) → ⊥
unfolding turned zip zip_with
not_kept_only = caught (rows_in kept_only) two (text "B" ∷ text "ABC" ∷ []) room refl

pub not_kept_first : Sheets (rows_in kept_first) → ⊥
unfolding turned zip zip_with
not_kept_first = caught (rows_in kept_first) two (text "B" ∷ text "ABC" ∷ []) room refl

-- AB and CA, on CAB
pub not_along_ribbon : Sheets (rows_in along_ribbon) → ⊥
unfolding turned zip zip_with
not_along_ribbon = caught (rows_in along_ribbon) two (text "AB" ∷ text "CA" ∷ []) room refl

-- Names: quotes not doubled, on a quote; never quoted, on a comma.
abbrev names_by : (List ℕ → List ℕ) → Call
names_by field = call_by checked (write_by listed field (place_of turned 0) decimal standing how_often)

pub not_undoubled : Sheets (names_by undoubled) → ⊥
unfolding turned zip zip_with
not_undoubled = caught (names_by undoubled) (text "\"" ∷ []) (text "AB" ∷ []) room refl

pub not_never_quoted : Sheets (names_by (λ c. c)) → ⊥
unfolding turned zip zip_with
not_never_quoted = caught (names_by (λ c. c)) (text "," ∷ []) (text "AB" ∷ []) room refl

-- Places: always `given,0`, on AB and CD; given for a code that looks alike, on ABA; either for every code, on AB; either
-- where the turned form stands elsewhere, on AB and ABBA.
abbrev placed_by : (List ℕ → List ℕ → Place) → Call
placed_by place = call_by checked (write_by listed field_text place decimal standing how_often)

pub not_always_first : Sheets (placed_by (λ c s. given_at 0)) → ⊥
unfolding turned zip zip_with
not_always_first = caught (placed_by (λ c s. given_at 0)) two apart room refl

pub not_given_for_alike : Sheets (placed_by (given_for_alike 0)) → ⊥
unfolding turned zip zip_with
not_given_for_alike = caught (placed_by (given_for_alike 0)) (text "P" ∷ []) (text "ABA" ∷ []) room refl

pub not_either_for_all : Sheets (placed_by (either_for_all 0)) → ⊥
unfolding turned zip zip_with
not_either_for_all = caught (placed_by (either_for_all 0)) (text "P" ∷ []) (text "AB" ∷ []) room refl

pub not_either_for_elsewhere : Sheets (placed_by (either_for_elsewhere 0)) → ⊥
unfolding turned zip zip_with
not_either_for_elsewhere = caught (placed_by (either_for_elsewhere 0)) two (text "AB" ∷ text "ABBA" ∷ []) room refl

-- Starts: counted from 1; with a leading zero; digits reversed, on a code that starts at 10.
abbrev starts_by : (ℕ → List ℕ) → Call
starts_by number = call_by checked (write_by listed field_text (place_of turned 0) number standing how_often)

pub not_from_one : Sheets (starts_by (λ i. decimal (suc i))) → ⊥
unfolding turned zip zip_with
not_from_one = caught (starts_by (λ i. decimal (suc i))) two apart room refl

pub not_leading_zero : Sheets (starts_by (λ i. text "0" ++ decimal i)) → ⊥
unfolding turned zip zip_with
not_leading_zero = caught (starts_by (λ i. text "0" ++ decimal i)) two apart room refl

pub not_reversed : Sheets (starts_by (λ i. turned (decimal i))) → ⊥
unfolding turned zip zip_with
not_reversed = caught (starts_by (λ i. turned (decimal i))) two (text "ABCDEFGHIJ" ∷ text "KL" ∷ []) room refl

-- Bands: as they are listed and not as they stand, on AB and BA.
abbrev as_listed : Call
as_listed = call_by checked (write_by listed field_text (place_of turned 0) decimal (λ c s i. c) how_often)

pub not_as_listed : Sheets as_listed → ⊥
unfolding turned zip zip_with
not_as_listed = caught as_listed two (text "AB" ∷ text "BA" ∷ []) room refl

-- How often a code passes: always once; that of the code listed before it; each way by itself, on ABA; as given only;
-- only starts past the end of the one counted before; not written, below our heading or below the earlier one.
abbrev places_by : (List (List ℕ) → List ℕ → List ℕ → List (List ℕ)) → Call
places_by places = call_by checked (write_by listed field_text (place_of turned 0) decimal standing places)

abbrev counted_by : (List ℕ → List ℕ → ℕ) → Call
counted_by count = places_by (λ cs c s. decimal (count c s) ∷ [])

-- A and BAA, of which A passes twice
pub not_once : Sheets (counted_by (λ c s. 1)) → ⊥
unfolding turned zip zip_with
not_once = caught (counted_by (λ c s. 1)) two (text "A" ∷ text "BAA" ∷ []) room refl

abbrev before : List (List ℕ) → List ℕ → List ℕ
before [] c = c
before (d ∷ []) c = c
before (d ∷ (e ∷ cs)) c = pick (same e c) d (before (e ∷ cs) c)

abbrev of_the_one_before : Call
of_the_one_before = places_by (λ cs c s. how_often cs (before cs c) s)

pub not_of_the_one_before : Sheets of_the_one_before → ⊥
unfolding turned zip zip_with
not_of_the_one_before = caught of_the_one_before two (text "A" ∷ text "BAA" ∷ []) room refl

abbrev given_way : List ℕ → List ℕ → ℕ
given_way c s = count_of (λ d. d) c s

abbrev each_way : List ℕ → List ℕ → ℕ
each_way c s = given_way c s + given_way (turned c) s

pub not_each_way : Sheets (counted_by each_way) → ⊥
unfolding turned zip zip_with
not_each_way = caught (counted_by each_way) (text "P" ∷ []) (text "ABA" ∷ []) room refl

-- AB and ABA, on which AB passes turned too
pub not_given_way : Sheets (counted_by given_way) → ⊥
unfolding turned zip zip_with
not_given_way = caught (counted_by given_way) two (text "AB" ∷ text "ABA" ∷ []) room refl

-- the next k starts are left out
abbrev apart_from : ℕ → List ℕ → List ℕ → ℕ
apart_from k c [] = 0
apart_from zero c (b ∷ s) =
    pick (begins c (b ∷ s) || begins (turned c) (b ∷ s)) (suc (apart_from (length c - 1) c s)) (apart_from zero c s)
apart_from (suc k) c (b ∷ s) = apart_from k c s

-- AA and AAA, on which AA overlaps itself
pub not_apart : Sheets (counted_by (apart_from 0)) → ⊥
unfolding turned zip zip_with
not_apart = caught (counted_by (apart_from 0)) two (text "AA" ∷ text "AAA" ∷ []) room refl

abbrev left_out : List (List ℕ) → List ℕ → List ℕ → List (List ℕ)
left_out cs c s = []

pub not_left_out : Sheets (places_by left_out) → ⊥
unfolding turned zip zip_with
not_left_out = caught (places_by left_out) (text "P" ∷ []) (text "AB" ∷ []) room refl

abbrev earlier_text : List (List ℕ) → List (List ℕ) → List ℕ
earlier_text names codes =
    let rows = rows_by listed field_text (place_of turned 0) decimal standing left_out in
    text "name,way,start,bands\r\n" ++ rows codes (ribbon_for turned codes) (zip names codes)

pub not_earlier_sheet : Sheets (call_by checked earlier_text) → ⊥
unfolding turned zip zip_with
not_earlier_sheet = caught (call_by checked earlier_text) (text "P" ∷ []) (text "AB" ∷ []) room refl

-- The list: names not checked, on a name used twice; every list turned away; the retired number, 14, where several codes share
-- nothing, as if no join of overlap 0 were allowed, on A and B.
abbrev unchecked : Call
unchecked = call_by (λ run ls name_run name_ls. list_ok_lem run ls) sheet_text_lem

pub not_unchecked : Sheets unchecked → ⊥
unfolding turned
not_unchecked = caught unchecked twice apart room refl

abbrev all_turned_away : Call
all_turned_away = call_by (λ run ls name_run name_ls. false) sheet_text_lem

pub not_all_turned_away : Sheets all_turned_away → ⊥
unfolding turned
not_all_turned_away = caught all_turned_away (text "P" ∷ []) (text "AB" ∷ []) room refl

abbrev retired_number : Call
retired_number run ls name_run name_ls buffer =
    pick
    (ltb 1 (length ls) && eqb (saved_by turned (codes_in run ls)) 0)
    (outcome (refused (whole 14)) buffer)
    (sheet_outcome run ls name_run name_ls buffer)

pub not_retired_number : Sheets retired_number → ⊥
unfolding turned
not_retired_number = caught retired_number two (text "A" ∷ text "B" ∷ []) room refl

-- The order of refusals: 13 before 12, on a name used twice and no room.
abbrev short_first : Call
short_first run ls name_run name_ls buffer =
    let short = ltb (length buffer) (length (sheet_for run ls name_run name_ls)) in
    pick short (outcome (refused (whole short_buffer_number)) buffer) (sheet_outcome run ls name_run name_ls buffer)

pub not_short_first : Sheets short_first → ⊥
unfolding turned
not_short_first = caught short_first twice apart [] refl

-- The answer: length and saved exchanged.
abbrev exchanged : Call
exchanged run ls name_run name_ls buffer =
    let o = sheet_outcome run ls name_run name_ls buffer in
    elim o.answer [ refused r ↦ o | written bytes saved ↦ outcome (written saved bytes) o.after ]

pub not_exchanged : Sheets exchanged → ⊥
unfolding turned
not_exchanged = caught exchanged (text "P" ∷ []) (text "AB" ∷ []) room refl

-- The buffer: untouched; written as far as it goes before a refusal, in one byte; cleared past the sheet.
abbrev untouched : Call
untouched run ls name_run name_ls buffer = outcome (sheet_outcome run ls name_run name_ls buffer).answer buffer

pub not_untouched : Sheets untouched → ⊥
unfolding turned
not_untouched = caught untouched (text "P" ∷ []) (text "AB" ∷ []) room refl

abbrev writes_refused : Call
writes_refused run ls name_run name_ls buffer =
    outcome (sheet_outcome run ls name_run name_ls buffer).answer
    (take (length buffer) (over (sheet_for run ls name_run name_ls) buffer))

pub not_writes_refused : Sheets writes_refused → ⊥
unfolding turned
not_writes_refused = caught writes_refused (text "P" ∷ []) (text "AB" ∷ []) (7 ∷ []) refl

abbrev cleared : Call
cleared run ls name_run name_ls buffer = sheet_outcome run ls name_run name_ls (map (λ (b : ℕ). 0) buffer)

pub not_cleared : Sheets cleared → ⊥
unfolding turned
not_cleared = caught cleared (text "P" ∷ []) (text "AB" ∷ []) room refl
