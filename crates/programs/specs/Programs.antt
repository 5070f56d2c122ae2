-- What the three programs write, as functions of the bytes of their input files. A file that isn't named or can't be
-- opened counts as one of 0 bytes, so that a program has its bytes in any case.
use Rattle.std.specs.Prelude.{◌≡◌, true, false, not, List, ◌∷◌, ◌++◌, ℕ, suc, ◌≤◌, eqb, ltb, ℤ, pos, negsuc, length, take}
use Rattle.words.specs.Texts.{text}
use Rattle.words.specs.Turn.{turned}
use Rattle.lists.specs.Refusals.{Refusal, refusal, whole, long_ribbon_number, unknown_colour_number, when, first_of}
use Rattle.lists.specs.Runs.{over}
use Rattle.lists.specs.Fit.{all_bands_lem}
use Rattle.grammar.specs.Files.{comma, line_break, Orders}
use Rattle.grammar.specs.Orders.{read_orders_lem}
use Rattle.grammar.specs.RibbonFile.{ribbon_of_lem}
use Rattle.greedy.specs.Layout.{ribbon_for}
use Rattle.checking.specs.Check.{Missing, none_missing, missing, missing_on}
use Rattle.checking.specs.Answers.{less}
use Rattle.sheets.specs.Decimal.{decimal}
use Rattle.sheets.specs.Sheet.{sheet_text_lem}

-- A program that meets a refusal writes one line.
abbrev pub refused_line_lem : Refusal → List ℕ
refused_line_lem r = text "refused," ++ (decimal r.number ++ (comma ∷ (decimal r.row ++ line_break)))

-- what is written of an order list that is read, and the refusal of one that isn't
abbrev pub written_for : (Orders → List ℕ) → Orders → List ℕ
written_for written x =
    elim (eqb x.number 0) [ true ↦ written x | false ↦ refused_line_lem (refusal x.number x.line) ]

abbrev pub of_list : (Orders → List ℕ) → List ℕ → List ℕ
of_list written file = written_for written (read_orders_lem file)

-- The ribbon program writes the ribbon and CR LF, the sheet program the sheet.
abbrev pub ribbon_output_lem : List ℕ → List ℕ
ribbon_output_lem = of_list (λ x. ribbon_for turned x.codes ++ line_break)

abbrev pub sheet_output_lem : List ℕ → List ℕ
sheet_output_lem = of_list (λ x. sheet_text_lem x.names x.codes)

-- The check program deals with the order list before the ribbon file. It writes `held,` with the difference (a `-` before
-- it when below zero), or `missing,` with the code's number, and CR LF.
abbrev pub signed : ℤ → List ℕ
signed (pos n) = decimal n
signed (negsuc n) = text "-" ++ decimal (suc n)

abbrev pub held_line_lem : ℤ → List ℕ
held_line_lem difference = text "held," ++ (signed difference ++ line_break)

abbrev pub missing_line_lem : ℕ → List ℕ
missing_line_lem code = text "missing," ++ (decimal code ++ line_break)

abbrev pub found_line : ℤ → Missing → List ℕ
found_line difference none_missing = held_line_lem difference
found_line difference (missing k) = missing_line_lem k

abbrev pub checked_line : List (List ℕ) → List ℕ → List ℕ
checked_line codes row =
    let f = first_of (when (ltb 16384 (length row)) long_ribbon_number) (when (not (all_bands_lem row)) unknown_colour_number) in
    elim (eqb f 0) [
      | true ↦ found_line (less (length row) (length (ribbon_for turned codes))) (missing_on turned codes row)
      | false ↦ refused_line_lem (whole f)
    ]

abbrev pub check_output_lem : List ℕ → List ℕ → List ℕ
check_output_lem list ribbon = of_list (λ x. checked_line x.codes (ribbon_of_lem ribbon)) list

-- A text written at the beginning of a row, with its length; the row behind it is as before. So many bytes are there.
pub record WritesOver (text before after : List ℕ) (r : ℕ) : Type 0 where
  pub long : r ≡ length text
  pub written : after ≡ over text before
  pub counts : (r ≤ length after) × (r ≡ length (take r after))

-- How much of its files a program need read: one byte more than an order list may have, and three more than a ribbon, for
-- CR LF and one to see that there is more. Whatever comes after that, the output is the same.
pub record ReadsEnough : Type 0 where
  pub of_list_file : (written : Orders → List ℕ) (file : List ℕ) → of_list written (take 16385 file) ≡ of_list written file
  pub of_ribbon : (list file : List ℕ) → check_output_lem list (take 16387 file) ≡ check_output_lem list file
