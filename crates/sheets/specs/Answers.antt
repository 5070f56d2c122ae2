-- What writing the sheet answers and leaves in the lent buffer, refused input too: the claim on any call, and ours.
use Rattle.std.specs.Prelude.{◌⊎◌, true, false, ◌&&◌, not, List, ℕ, ◌≤◌, ◌<◌, eqb, ltb, length}
use Rattle.words.specs.Turn.{turned}
use Rattle.lists.specs.Refusals.{Refusal, whole, false_list_number, short_buffer_number, when, first_of}
use Rattle.lists.specs.Outcome.{Outcome, outcome}
use Rattle.lists.specs.Runs.{codes_in, over}
use Rattle.lists.specs.Rules.{FalseCodes, FalseNames}
use Rattle.lists.specs.Fit.{list_ok_lem, names_ok_lem}
use Rattle.joins.specs.Rules.{Chosen}
use Rattle.greedy.specs.Rules.{Lays}
use Rattle.greedy.specs.Layout.{saved_by}
use Rattle.sheets.specs.Sheet.{SheetFor, sheet_text_lem}

-- refused; or written with the sheet's length and what the ribbon saves
pub data SheetAnswer : Type 0 where
  refused : Refusal → SheetAnswer
  written : (bytes saved : ℕ) → SheetAnswer

abbrev pub SheetOutcome : Type 0
SheetOutcome = Outcome SheetAnswer (List ℕ)

-- The claim on a call: 12 for codes or names, then 13, each under its condition and both with row 0; a refused call changes
-- no lent byte, and on success the buffer past the sheet keeps what it had.
module _ (run ls name_run name_ls : List ℕ) where
  abbrev pub FalseList : Type 0
  FalseList = FalseCodes run ls ⊎ FalseNames (length ls) name_run name_ls

  -- a ribbon laid out by the rules, and its sheet
  pub record Sheeted (ribbon sheet : List ℕ) (saved : ℕ) : Type 0 where
    pub lays : Lays Chosen turned (codes_in run ls) ribbon saved
    pub shows : SheetFor (codes_in name_run name_ls) (codes_in run ls) ribbon sheet

  pub data SheetsInto (buffer : List ℕ) : SheetOutcome → Type 0 where
    false_list : FalseList → SheetsInto buffer (outcome (refused (whole false_list_number)) buffer)
    short_buffer : {ribbon sheet : List ℕ} {saved : ℕ} → (FalseList → ⊥) → Sheeted ribbon sheet saved
        → length buffer < length sheet → SheetsInto buffer (outcome (refused (whole short_buffer_number)) buffer)
    filled : {ribbon sheet : List ℕ} {saved : ℕ} → (FalseList → ⊥) → Sheeted ribbon sheet saved
        → length sheet ≤ length buffer → SheetsInto buffer (outcome (written (length sheet) saved) (over sheet buffer))

abbrev pub Sheets : (List ℕ → List ℕ → List ℕ → List ℕ → List ℕ → SheetOutcome) → Type 0
Sheets call =
    (run ls name_run name_ls buffer : List ℕ)
    → SheetsInto run ls name_run name_ls buffer (call run ls name_run name_ls buffer)

-- Ours.
module _ (run ls name_run name_ls : List ℕ) where
  abbrev pub sheet_for : List ℕ
  sheet_for = sheet_text_lem (codes_in name_run name_ls) (codes_in run ls)

  abbrev pub sheet_fault : ℕ → ℕ
  sheet_fault room =
      first_of (when (not (list_ok_lem run ls && names_ok_lem (length ls) name_run name_ls)) false_list_number)
      (when (ltb room (length sheet_for)) short_buffer_number)

  abbrev pub sheet_outcome : List ℕ → SheetOutcome
  sheet_outcome buffer =
      let f = sheet_fault (length buffer) in
      elim (eqb f 0) [
        | true ↦ outcome (written (length sheet_for) (saved_by turned (codes_in run ls))) (over sheet_for buffer)
        | false ↦ outcome (refused (whole f)) buffer
      ]
