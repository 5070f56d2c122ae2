-- What writing a sheet promises: its answer and what it leaves in lent memory are the defined ones, and what they mean.
use Rattle.std.specs.Prelude.{◌≡◌, true, false, List, ℕ, ltb, length, Result, Ok, Err}
use Rattle.words.specs.Turn.{turned}
use Rattle.lists.specs.Refusals.{whole, short_buffer_number}
use Rattle.lists.specs.Answers.{refusal_of}
use Rattle.lists.specs.declared.numbers.Refusal.{Refusal}
use Rattle.lists.specs.Outcome.{outcome}
use Rattle.lists.specs.Runs.{over}
use Rattle.lists.specs.Handed.{words_of}
use Rattle.fitness.specs.declared.codes.FitList.{FitList}
use Rattle.fitness.specs.declared.names.FitNames.{FitNames}
use Rattle.greedy.specs.Layout.{ribbon_for}
use Rattle.sheets.specs.Answers.{SheetAnswer, refused, written, SheetOutcome, SheetsInto, sheet_for, sheet_outcome}
use Rattle.writer.specs.declared.Wrote.{Wrote}

-- The answer of a routine: document 01's number and row, or the values, for each case.
abbrev pub answer_of : Result Wrote Refusal → SheetAnswer
answer_of (Ok w) = written w.bytes w.saved
answer_of (Err r) = refused (refusal_of r)

-- What writing a sheet promises: the one outcome that is defined, and what it means.
pub record WritesSheet (run ls name_run name_ls before after : List ℕ) (r : Result Wrote Refusal) : Type 0 where
  pub answer : answer_of r ≡ (sheet_outcome run ls name_run name_ls before).answer
  pub left : after ≡ (sheet_outcome run ls name_run name_ls before).after
  pub means : SheetsInto run ls name_run name_ls before (outcome (answer_of r) after)

-- The stage behind the layout: a fit list with names, one for each code, and its ribbon, whose sheet is written where it fits.
pub record Ready (list : FitList) (named : FitNames) (ribbon : List ℕ) : Type 0 where
  pub one_each : length named.names.sizes.now ≡ length list.codes.sizes.now
  pub laid : ribbon ≡ ribbon_for turned (words_of list.codes)

unfoldable pub laid_outcome : (run ls name_run name_ls : List ℕ) → ℕ → List ℕ → SheetOutcome
laid_outcome run ls name_run name_ls saved buffer =
    let sheet = sheet_for run ls name_run name_ls in
    elim (ltb (length buffer) (length sheet)) [
      | true ↦ outcome (refused (whole short_buffer_number)) buffer
      | false ↦ outcome (written (length sheet) saved) (over sheet buffer)
    ]

-- The routine answers as an outcome says, and leaves in lent memory what it says.
pub record Gives (o : SheetOutcome) (after : List ℕ) (r : Result Wrote Refusal) : Type 0 where
  pub answer : answer_of r ≡ o.answer
  pub left : after ≡ o.after

abbrev pub WritesLaid : FitList → FitNames → ℕ → List ℕ → List ℕ → Result Wrote Refusal → Type 0
WritesLaid list named saved before after r =
    Gives (laid_outcome list.codes.bytes.now list.codes.sizes.now named.names.bytes.now named.names.sizes.now saved before) after r
