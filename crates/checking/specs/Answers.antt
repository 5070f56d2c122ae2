-- What checking a supplied ribbon answers and leaves in the lent records, refused input too: the claim on any call, and
-- ours. Refusals come in the order 12, 15, 8 in the ribbon, 13, all with row 0; 13 only where it would answer held.
use Rattle.std.specs.Prelude.{◌≡◌, true, false, not, List, [], ◌∷◌, ℕ, suc, ◌+◌, ◌-◌, ◌≤◌, ◌<◌, eqb, ltb, leb, ℤ, pos, negsuc, length}
use Rattle.words.specs.Tests.{pick}
use Rattle.words.specs.Turn.{turned}
use Rattle.words.specs.Lists.{Each}
use Rattle.words.specs.Place.{Place, IsPlace, place_of}
use Rattle.lists.specs.Refusals.{Refusal, whole, false_list_number, long_ribbon_number, unknown_colour_number, short_buffer_number, when, first_of}
use Rattle.lists.specs.Outcome.{Outcome, outcome}
use Rattle.lists.specs.Runs.{codes_in, over}
use Rattle.lists.specs.Rules.{Band, FalseCodes}
use Rattle.lists.specs.Fit.{all_bands_lem, list_ok_lem}
use Rattle.joins.specs.Rules.{Chosen}
use Rattle.greedy.specs.Rules.{Lays, AllStand}
use Rattle.greedy.specs.Layout.{ribbon_for}
use Rattle.checking.specs.Check.{none_missing, missing, missing_on, IsMissing}

-- refused, missing the code of a number, or held with the difference
pub data CheckAnswer : Type 0 where
  refused : Refusal → CheckAnswer
  missing_code : ℕ → CheckAnswer
  held : ℤ → CheckAnswer

-- A place record holds the code's number and its way with the start.
pub record PlaceRecord : Type 0 where
  pub code : ℕ
  pub place : Place

abbrev pub CheckOutcome : Type 0
CheckOutcome = Outcome CheckAnswer (List PlaceRecord)

-- The difference: the supplied length is the computed one and as much more, or less.
pub data Difference (supplied computed : ℕ) : ℤ → Type 0 where
  more : {d : ℕ} → supplied ≡ computed + d → Difference supplied computed (pos d)
  fewer : {d : ℕ} → supplied + suc d ≡ computed → Difference supplied computed (negsuc d)

-- A record for each code from number i on, in list order, with its place.
abbrev pub AreRecords : ℕ → List (List ℕ) → List ℕ → List PlaceRecord → Type 0
AreRecords i [] row [] = Unit {0}
AreRecords i [] row (r ∷ rs) = ⊥
AreRecords i (c ∷ cs) row [] = ⊥
AreRecords i (c ∷ cs) row (r ∷ rs) = (r.code ≡ i) × IsPlace turned 0 c row r.place × AreRecords (suc i) cs row rs

-- a list and a ribbon that are not refused
pub record Fit (run ls row : List ℕ) : Type 0 where
  pub list : FalseCodes run ls → ⊥
  pub long : length row ≤ 16384
  pub bands : Each Band row

-- The claim on a call: 12, 15, 8 in this order, then missing, then 13, and held. A refused call changes no record, nor
-- does one that answers missing; on success records past the last code keep what they had.
module _ (run ls row : List ℕ) (records : List PlaceRecord) where
  abbrev cs : List (List ℕ)
  cs = codes_in run ls

  pub data ChecksInto : CheckOutcome → Type 0 where
    false_list : FalseCodes run ls → ChecksInto (outcome (refused (whole false_list_number)) records)
    long_ribbon : (FalseCodes run ls → ⊥) → 16384 < length row → ChecksInto (outcome (refused (whole long_ribbon_number)) records)
    no_colour : (FalseCodes run ls → ⊥) → length row ≤ 16384 → (Each Band row → ⊥)
        → ChecksInto (outcome (refused (whole unknown_colour_number)) records)
    no_place : {k : ℕ} → Fit run ls row → IsMissing turned cs row (missing k)
        → ChecksInto (outcome (missing_code k) records)
    short_buffer : Fit run ls row → AllStand turned cs row → length records < length ls
        → ChecksInto (outcome (refused (whole short_buffer_number)) records)
    filled : {ribbon : List ℕ} {saved : ℕ} {d : ℤ} (rs : List PlaceRecord) → Fit run ls row → AllStand turned cs row
        → length ls ≤ length records → Lays Chosen turned cs ribbon saved → Difference (length row) (length ribbon) d
        → AreRecords 0 cs row rs → ChecksInto (outcome (held d) (over rs records))

abbrev pub Checks : (List ℕ → List ℕ → List ℕ → List PlaceRecord → CheckOutcome) → Type 0
Checks call =
    (run ls row : List ℕ) (records : List PlaceRecord) → ChecksInto run ls row records (call run ls row records)

-- Ours: a minus b, below zero where b is larger
abbrev pub less : ℕ → ℕ → ℤ
less a b = pick (leb b a) (pos (a - b)) (negsuc (b - a - 1))

-- the records of the codes, of which the first has the number i
abbrev pub records_from : ℕ → List (List ℕ) → List ℕ → List PlaceRecord
records_from i [] row = []
records_from i (c ∷ cs) row = record { code = i; place = place_of turned 0 c row } ∷ records_from (suc i) cs row

module _ (run ls row : List ℕ) where
  -- the refusals of a list or a ribbon
  abbrev pub supplied_fault_lem : ℕ
  supplied_fault_lem =
      first_of (when (not (list_ok_lem run ls)) false_list_number)
      (first_of (when (ltb 16384 (length row)) long_ribbon_number) (when (not (all_bands_lem row)) unknown_colour_number))

  -- held with all records filled, where there is room for them
  abbrev pub held_outcome : List PlaceRecord → CheckOutcome
  held_outcome records = elim (ltb (length records) (length ls)) [
    | true ↦ outcome (refused (whole short_buffer_number)) records
    | false ↦
        outcome
        (held (less (length row) (length (ribbon_for turned (codes_in run ls)))))
        (over (records_from 0 (codes_in run ls) row) records)
  ]

  abbrev pub check_outcome : List PlaceRecord → CheckOutcome
  check_outcome records = elim (eqb supplied_fault_lem 0) [
    | false ↦ outcome (refused (whole supplied_fault_lem)) records
    | true ↦ elim (missing_on turned (codes_in run ls) row) [
      | missing k ↦ outcome (missing_code k) records
      | none_missing ↦ held_outcome records
    ]
  ]
