-- By which numbers each call can refuse: each case of its claim has one, and what is printed is read back. None is 14.
use mathlib.Core.Path.{◌≡◌, refl, sym}
use mathlib.Core.Logic.{inl, inr}
use mathlib.Core.Bool.{false}
use mathlib.Core.List.{List, [], ◌∷◌}
use Prim.Native.Nat.{ℕ, ◌≤◌}
use native.Mathlib.Omega.{arith}
use lib.ListN.{length, take, drop, replicate, length-replicate, length-map}
use lib.Seq.{take-append_seam}
use Rattle.words.specs.Lists.{In}
use Rattle.words.proofs.Lists.{in_left, in_right}
use Rattle.words.proofs.Deciding.{holds, passes, fails}
use Rattle.lists.specs.Refusals.{long_ribbon_number, unknown_colour_number, short_buffer_number}
use Rattle.lists.proofs.Rules.{codes_checked, is_fit_list}
use Rattle.grammar.specs.Answers.{Lent}
use Rattle.grammar.specs.RibbonFile.{ribbon_of_lem}
use Rattle.grammar.proofs.RibbonFile.{takes_ours}
use Rattle.orders.specs.Calls as orders
use Rattle.greedy.specs.Answers.{LayAnswer, LayOutcome, LaysInto}
use Rattle.greedy.specs.Answers as lays
use Rattle.checking.specs.Answers.{CheckAnswer, CheckOutcome, PlaceRecord, ChecksInto}
use Rattle.checking.specs.Answers as checks
use Rattle.places.specs.Calls.{record_of_lem, place_for}
use Rattle.places.specs.declared.Place.{Place}
use Rattle.sheets.specs.Answers.{SheetAnswer, SheetOutcome, SheetsInto}
use Rattle.sheets.specs.Answers as sheets
use Rattle.programs.specs.Programs.{WritesOver}
use Rattle.programs.proofs.Prints.{ribbon_program_ours, sheet_program_ours, check_program_ours}
use Rattle.numbers.specs.Numbers.{Call, read_orders, lay_ribbon, check_ribbon, check_places, check_only, write_sheet}
use Rattle.numbers.specs.Numbers.{ribbon_output, sheet_output, check_output}
use Rattle.numbers.specs.Numbers.{Refuses, reading, laying, checking, in_room, alone, writing}
use Rattle.numbers.specs.Numbers.{printing_ribbon, printing_sheet, printing_check}
use Rattle.numbers.specs.Numbers.{list_numbers, numbers_of, Only, Retired, Numbers}
use Rattle.numbers.proofs.Listed.{is_listed, is_listed_lem}
use Rattle.numbers.proofs.Files.{reads_number}
use Rattle.numbers.proofs.Lines.{no_ribbon, no_sheet, check_number, prints_number}

-- Reading an order list.
read_number : {file : List ℕ} {before : Lent} {n l : ℕ} → orders.Refuses file before n l → In n (numbers_of read_orders)
read_number (orders.in_file {n} d p) = in_left n list_numbers (short_buffer_number ∷ []) (reads_number d p)
read_number (orders.in_buffers d s) = in_right short_buffer_number list_numbers (short_buffer_number ∷ []) (inl refl)

-- Laying out a ribbon.
abbrev LayNumber : LayAnswer → Type 0
LayNumber (lays.refused r) = In r.number (numbers_of lay_ribbon)
LayNumber (lays.laid bands saved) = Unit {0}

lay_number : {run ls before : List ℕ} {o : LayOutcome} → LaysInto run ls before o → LayNumber o.answer
lay_number (lays.false_list f) = inl refl
lay_number (lays.short_buffer f l s) = inr (inl refl)
lay_number (lays.filled f l s) = tt

-- Checking a ribbon; where there is room for as many records as any list has codes, not by 13.
abbrev CheckNumber : List ℕ → CheckAnswer → Type 0
CheckNumber ns (checks.refused r) = In r.number ns
CheckNumber ns (checks.missing_code k) = Unit {0}
CheckNumber ns (checks.held d) = Unit {0}

module _ {run ls row : List ℕ} {records : List PlaceRecord} where
  records_number : {o : CheckOutcome} → ChecksInto run ls row records o → CheckNumber (numbers_of check_ribbon) o.answer
  records_number (checks.false_list f) = inl refl
  records_number (checks.long_ribbon f l) = inr (inl refl)
  records_number (checks.no_colour f l b) = inr (inr (inl refl))
  records_number (checks.no_place f m) = tt
  records_number (checks.short_buffer f a s) = inr (inr (inr (inl refl)))
  records_number (checks.filled rs f a l o d r) = tt

  alone_number : {o : CheckOutcome} → 128 ≤ length records → ChecksInto run ls row records o
      → CheckNumber (numbers_of check_only) o.answer
  alone_number room (checks.false_list f) = inl refl
  alone_number room (checks.long_ribbon f l) = inr (inl refl)
  alone_number room (checks.no_colour f l b) = inr (inr (inl refl))
  alone_number room (checks.no_place f m) = tt
  alone_number room (checks.short_buffer f a s) =
      absurd (omega (arith, (holds (is_fit_list run ls) (passes (codes_checked run ls) f.list)).at_most))
  alone_number room (checks.filled rs f a l o d r) = tt

any_record : Place
any_record = place_for 0 [] []

-- Writing a sheet.
abbrev SheetNumber : SheetAnswer → Type 0
SheetNumber (sheets.refused r) = In r.number (numbers_of write_sheet)
SheetNumber (sheets.written bytes saved) = Unit {0}

sheet_number : {run ls name_run name_ls before : List ℕ} {o : SheetOutcome} → SheetsInto run ls name_run name_ls before o
    → SheetNumber o.answer
sheet_number (sheets.false_list f) = inl refl
sheet_number (sheets.short_buffer f s l) = inr (inl refl)
sheet_number (sheets.filled f s l) = tt

-- What is printed is the text that the contract names.
printed : {text before after : List ℕ} {r : ℕ} → WritesOver text before after r → text ≡ take r after
printed {text} {before} w = sym (rw (w.long, w.written) (take-append_seam text (drop (length text) before)))

-- All of them.
only : Only
only call n (reading m) = read_number m.means.0
only call n (laying m) = lay_number m.means
only call n (checking m) = records_number m.means
only call n (in_room {room = room} m) =
    records_number (m.checks (replicate room any_record) (length-replicate room any_record)).means
only call n (alone m) =
    let blank = replicate 128 any_record in
    let long = length-replicate 128 any_record in
    alone_number (omega (arith, length-map blank record_of_lem)) (m.checks blank (omega arith)).means
only call n (writing m) = sheet_number m.means
only call n (printing_ribbon list m line) =
    prints_number line list_numbers (λ i. i) (λ names codes s h d e. absurd (no_ribbon line h d e))
    (ribbon_program_ours list) (printed m)
only call n (printing_sheet list m line) =
    prints_number line list_numbers (λ i. i) (λ names codes s h d e. absurd (no_sheet line d e))
    (sheet_program_ours list) (printed m)
only call n (printing_check list file m line) =
    let of_ribbon = long_ribbon_number ∷ unknown_colour_number ∷ [] in
    prints_number line (numbers_of check_output) (in_left n list_numbers of_ribbon)
    (λ names codes s h d e. in_right n list_numbers of_ribbon (check_number line d e))
    (check_program_ours list file (ribbon_of_lem file) (takes_ours file)) (printed m)

-- A number that is not listed is not given.
unlisted : (call : Call) (n : ℕ) → is_listed n (numbers_of call) ≡ false → Refuses call n → ⊥
unlisted call n e r = fails (is_listed_lem n (numbers_of call)) e (only call n r)

retired : Retired
retired read_orders = unlisted read_orders _ refl
retired lay_ribbon = unlisted lay_ribbon _ refl
retired check_ribbon = unlisted check_ribbon _ refl
retired check_places = unlisted check_places _ refl
retired check_only = unlisted check_only _ refl
retired write_sheet = unlisted write_sheet _ refl
retired ribbon_output = unlisted ribbon_output _ refl
retired sheet_output = unlisted sheet_output _ refl
retired check_output = unlisted check_output _ refl

pub numbers : Numbers
numbers = record { only = only; retired = retired }
