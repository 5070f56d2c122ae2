-- The stages put together. All codes stand on the ribbon, so each has a place and the sheet that is written is the list's;
-- it is given or refused by its length. The outcome of the whole is that of this stage where list and names are fit, and
-- what it means follows from it.
use mathlib.Core.Path.{◌≡◌, refl, sym, ap, ap₂, subst, ◌∙◌}
use mathlib.Core.Bool.{Bool, true, false, ◌&&◌, not, true≢false}
use Rattle.std.proofs.Common.{Result, Ok}
use mathlib.Core.List.{List}
use Prim.Native.Nat.{ℕ, ◌≤◌, ◌<◌}
use native.Mathlib.Omega.{arith}
use lib.Dec.{ltb}
use lib.ListN.{length}
use borrow.Author.Tests.{lt-ltb, le-ltb}
use Rattle.words.specs.Turn.{turned}
use Rattle.words.proofs.Turning.{turning}
use Rattle.words.proofs.Tests.{both}
use Rattle.words.proofs.Deciding.{passes, not_lt}
use Rattle.words.proofs.Placing.{found_exactly}
use Rattle.lists.specs.Refusals.{whole, false_list_number, short_buffer_number}
use Rattle.lists.specs.declared.numbers.Refusal.{Refusal}
use Rattle.lists.specs.Outcome.{outcome}
use Rattle.lists.specs.Runs.{codes_in, over}
use Rattle.lists.specs.Fit.{list_ok_lem, names_ok_lem}
use Rattle.lists.proofs.Runs.{codes_count}
use Rattle.fitness.specs.declared.codes.FitList.{FitList}
use Rattle.fitness.specs.declared.names.FitNames.{FitNames}
use Rattle.greedy.specs.Dropping.{code_at}
use Rattle.greedy.specs.Rules.{AllStand}
use Rattle.greedy.specs.Layout.{saved_by}
use Rattle.greedy.proofs.Claims.{each_laid}
use Rattle.greedy.proofs.Room.{ribbon_at_most}
use Rattle.places.specs.Calls.{FindsPlaces}
use Rattle.places.specs.declared.Place.{Place}
use Rattle.checking.proofs.Check.{stands_at}
use Rattle.sheet_rows.specs.Shows.{AllPlaced, ShowsCodes}
use Rattle.sheet_rows.specs.Placed.{RowsThere, placed_sheet}
use Rattle.sheet_rows.specs.declared.pieces.Shown.{Shown}
use Rattle.sheets.specs.Answers.{SheetAnswer, SheetOutcome, refused, written, SheetsInto, sheet_for, sheet_outcome}
use Rattle.sheet_rows.proofs.Placed.{placed_is_sheet, rows_there}
use Rattle.sheets.proofs.Room.{sheet_at_most}
use Rattle.sheets.proofs.Answers.{if_tests, sheets_ours}
use Rattle.pages.specs.Pages.{PutsSheet}
use Rattle.writer.specs.Calls.{answer_of, WritesSheet, Ready, laid_outcome, Gives}
use Rattle.writer.specs.declared.Wrote.{Wrote}

-- a sheet: too long for the buffer, or written
module _ (run ls name_run name_ls : List ℕ) {size : ℕ} (long : size ≡ length (sheet_for run ls name_run name_ls)) (saved : ℕ)
    (buffer : List ℕ) where
  room : (t : Bool) → ltb (length buffer) size ≡ t → ltb (length buffer) (length (sheet_for run ls name_run name_ls)) ≡ t
  room t e = ap (ltb (length buffer)) (sym long) ∙ e

  gives_short : {r : Result Wrote Refusal} → length buffer < size → answer_of r ≡ refused (whole short_buffer_number)
      → Gives (laid_outcome run ls name_run name_ls saved buffer) buffer r
  unfolding laid_outcome
  gives_short l e =
      let t = room true (lt-ltb (length buffer) size l) in
      record { answer = rw (t, laid_outcome) e; left = rw (t, laid_outcome) }

  gives_sheet : {after : List ℕ} → size ≤ length buffer → after ≡ over (sheet_for run ls name_run name_ls) buffer
      → Gives (laid_outcome run ls name_run name_ls saved buffer) after (Ok (record { bytes = size; saved = saved }))
  unfolding laid_outcome
  gives_sheet l e =
      let t = room false (le-ltb (length buffer) size l) in
      record { answer = rw (t, laid_outcome) (ap (λ (n : ℕ). written n saved) long); left = rw (t, laid_outcome) e }

-- a fit list with names and its ribbon, which the search for places takes
module _ {list : FitList} {named : FitNames} {ribbon : List ℕ} (h : Ready list named ribbon) where
  abbrev run : List ℕ
  run = list.codes.bytes.now

  abbrev ls : List ℕ
  ls = list.codes.sizes.now

  abbrev name_run : List ℕ
  name_run = named.names.bytes.now

  abbrev name_ls : List ℕ
  name_ls = named.names.sizes.now

  abbrev cs : List (List ℕ)
  cs = codes_in run ls

  names_fit : names_ok_lem (length ls) name_run name_ls ≡ true
  names_fit = rw (← h.one_each) named.fit

  pub ribbon_short : length ribbon ≤ 16384
  ribbon_short = omega (arith, ap length h.laid, ribbon_at_most run ls list.fit)

  -- the records that were found on it are those of all codes
  module _ {count : ℕ} {all : List Place} (f : FindsPlaces run ls ribbon count all) where
    all_stand : AllStand turned cs ribbon
    all_stand = subst (AllStand turned cs) (sym h.laid) (each_laid turned turning cs).all_stand

    none_missing : count < length ls → ⊥
    none_missing l =
        let stands = stands_at turned cs ribbon count (omega (arith, codes_count run ls)) all_stand in
        true≢false (sym (passes (found_exactly turned (code_at cs count) ribbon) stands) ∙ f.stops l)

    pub each_placed : AllPlaced run ls ribbon all
    each_placed =
        let e : count ≡ length ls = omega (arith, f.within, not_lt none_missing) in
        record { short = ribbon_short; placed = subst (λ (n : ℕ). FindsPlaces run ls ribbon n all) e f }

  -- and by what is shown of them the sheet is the list's
  module _ {all : List Shown} (f : ShowsCodes run ls ribbon all) where
    pub there : RowsThere name_run name_ls ls all ribbon
    there = rows_there run ls name_run name_ls list.fit f names_fit

    sheet_is : placed_sheet (codes_in name_run name_ls) ls all ribbon ≡ sheet_for run ls name_run name_ls
    sheet_is = placed_is_sheet run ls name_run name_ls list.fit f h.laid

    module _ {size : ℕ} (e : size ≡ length (placed_sheet (codes_in name_run name_ls) ls all ribbon)) where
      pub size_short : size ≤ 17181
      size_short = omega (arith, e, ap length sheet_is, sheet_at_most run ls name_run name_ls list.fit names_fit)

      module _ (saved : ℕ) (buffer : List ℕ) where
        pub sheet_short : {r : Result Wrote Refusal} → length buffer < size → answer_of r ≡ refused (whole short_buffer_number)
            → Gives (laid_outcome run ls name_run name_ls saved buffer) buffer r
        sheet_short l a = gives_short run ls name_run name_ls (e ∙ ap length sheet_is) saved buffer l a

        pub sheet_written : {after : List ℕ} {r : ℕ} → size ≤ length buffer
            → PutsSheet (placed_sheet (codes_in name_run name_ls) ls all ribbon) buffer after r
            → Gives (laid_outcome run ls name_run name_ls saved buffer) after (Ok (record { bytes = size; saved = saved }))
        sheet_written l p =
            gives_sheet run ls name_run name_ls (e ∙ ap length sheet_is) saved buffer l
            (p.left ∙ ap (λ (s : List ℕ). over s buffer) sheet_is)

-- the whole
module _ (run ls name_run name_ls buffer : List ℕ) where
  writes : {after : List ℕ} {r : Result Wrote Refusal} → Gives (sheet_outcome run ls name_run name_ls buffer) after r
      → WritesSheet run ls name_run name_ls buffer after r
  writes g =
      record {
        answer = g.answer;
        left = g.left;
        means =
            subst (SheetsInto run ls name_run name_ls buffer)
            (ap₂ (λ (x : SheetAnswer) (l : List ℕ). outcome x l) (sym g.answer) (sym g.left))
            (sheets_ours run ls name_run name_ls buffer);
      }

  -- a false list, or false names, are refused before anything
  pub writes_false : {r : Result Wrote Refusal} → (list_ok_lem run ls && names_ok_lem (length ls) name_run name_ls) ≡ false
      → answer_of r ≡ refused (whole false_list_number) → WritesSheet run ls name_run name_ls buffer buffer r
  writes_false e a =
      writes (rw (if_tests run ls name_run name_ls buffer (ap not e) refl) (record { answer = a; left = refl }))

  -- else the outcome is that of the sheet
  fit_by : (t : Bool) → ltb (length buffer) (length (sheet_for run ls name_run name_ls)) ≡ t → list_ok_lem run ls ≡ true
      → names_ok_lem (length ls) name_run name_ls ≡ true
      → sheet_outcome run ls name_run name_ls buffer
      ≡ laid_outcome run ls name_run name_ls (saved_by turned (codes_in run ls)) buffer
  unfolding laid_outcome
  fit_by true e ok names-ok =
      if_tests run ls name_run name_ls buffer (ap not (both ok names-ok)) e ∙ rw (laid_outcome, e)
  fit_by false e ok names-ok =
      if_tests run ls name_run name_ls buffer (ap not (both ok names-ok)) e ∙ rw (laid_outcome, e)

  pub writes_laid : {after : List ℕ} {r : Result Wrote Refusal} (saved : ℕ) → list_ok_lem run ls ≡ true
      → names_ok_lem (length ls) name_run name_ls ≡ true → saved ≡ saved_by turned (codes_in run ls)
      → Gives (laid_outcome run ls name_run name_ls saved buffer) after r
      → WritesSheet run ls name_run name_ls buffer after r
  writes_laid {after} {r} saved ok names-ok e g =
      let o =
      ap (λ (n : ℕ). laid_outcome run ls name_run name_ls n buffer) e ∙ sym (fit_by _ refl ok names-ok) in
      writes (subst (λ (u : SheetOutcome). Gives u after r) o g)
