-- The claims on the three programs, in document 01's words: what each writes for the bytes of its input. A file that isn't
-- named or can't be opened counts as one of 0 bytes.
use Rattle.std.specs.Prelude.{List, ◌∷◌, ◌++◌, ℕ, suc, ◌≤◌, ◌<◌, ℤ, pos, negsuc, length}
use Rattle.words.specs.Texts.{text}
use Rattle.words.specs.Lists.{Each}
use Rattle.words.specs.Turn.{turned}
use Rattle.lists.specs.Refusals.{long_ribbon_number, unknown_colour_number}
use Rattle.lists.specs.Rules.{Band}
use Rattle.grammar.specs.Files.{comma, line_break, orders, bad}
use Rattle.grammar.specs.Grammar.{Reads}
use Rattle.grammar.specs.RibbonFile.{RibbonFile}
use Rattle.joins.specs.Rules.{Chosen}
use Rattle.greedy.specs.Rules.{Lays, AllStand}
use Rattle.checking.specs.Check.{missing, IsMissing}
use Rattle.checking.specs.Answers.{Difference}
use Rattle.sheets.specs.Decimal.{Digits}
use Rattle.sheets.specs.Sheet.{SheetFor}

-- A program that meets a refusal writes one line: `refused,` number `,` row, and CR LF.
pub data RefusedLine (n row : ℕ) : List ℕ → Type 0 where
  refused_line : {number counted : List ℕ} → Digits n number → Digits row counted
      → RefusedLine n row (text "refused," ++ (number ++ (comma ∷ (counted ++ line_break))))

-- The refusal of an order list is written, or what is due for its names and codes.
pub data Prints (Due : (names codes : List (List ℕ)) → List ℕ → Type 0) (list : List ℕ) : List ℕ → Type 0 where
  refuses : {n row : ℕ} {t : List ℕ} → Reads list (bad n row) → 0 < n → RefusedLine n row t → Prints Due list t
  writes : {names codes : List (List ℕ)} {t : List ℕ} → Reads list (orders 0 0 names codes) → Due names codes t
      → Prints Due list t

-- The ribbon program writes the ribbon and CR LF.
pub data RibbonLine (names codes : List (List ℕ)) : List ℕ → Type 0 where
  ribbon_line : {ribbon : List ℕ} {saved : ℕ} → Lays Chosen turned codes ribbon saved
      → RibbonLine names codes (ribbon ++ line_break)

-- The sheet program writes the sheet of that ribbon.
pub data SheetRows (names codes : List (List ℕ)) : List ℕ → Type 0 where
  sheet_rows : {ribbon sheet : List ℕ} {saved : ℕ} → Lays Chosen turned codes ribbon saved
      → SheetFor names codes ribbon sheet → SheetRows names codes sheet

-- A difference in decimal, a `-` before it when below zero.
pub data Signed : ℤ → List ℕ → Type 0 where
  at_least_0 : {n : ℕ} {t : List ℕ} → Digits n t → Signed (pos n) t
  below_0 : {n : ℕ} {t : List ℕ} → Digits (suc n) t → Signed (negsuc n) (text "-" ++ t)

-- The check program writes the refusal of a ribbon; `missing,` with the lowest number of a code that has no place; or
-- `held,` with the difference; and CR LF.
pub data CheckLine (row : List ℕ) (names codes : List (List ℕ)) : List ℕ → Type 0 where
  long_ribbon : {t : List ℕ} → 16384 < length row → RefusedLine long_ribbon_number 0 t → CheckLine row names codes t
  no_colour : {t : List ℕ} → length row ≤ 16384 → (Each Band row → ⊥) → RefusedLine unknown_colour_number 0 t
      → CheckLine row names codes t
  missing_line : {k : ℕ} {t : List ℕ} → length row ≤ 16384 → Each Band row → IsMissing turned codes row (missing k)
      → Digits k t → CheckLine row names codes (text "missing," ++ (t ++ line_break))
  held_line : {ribbon t : List ℕ} {saved : ℕ} {d : ℤ} → length row ≤ 16384 → Each Band row → AllStand turned codes row
      → Lays Chosen turned codes ribbon saved → Difference (length row) (length ribbon) d → Signed d t
      → CheckLine row names codes (text "held," ++ (t ++ line_break))

abbrev pub RibbonProgram : (List ℕ → List ℕ) → Type 0
RibbonProgram program = (list : List ℕ) → Prints RibbonLine list (program list)

abbrev pub SheetProgram : (List ℕ → List ℕ) → Type 0
SheetProgram program = (list : List ℕ) → Prints SheetRows list (program list)

-- It deals with the order list before the ribbon file.
abbrev pub CheckProgram : (List ℕ → List ℕ → List ℕ) → Type 0
CheckProgram program =
    (list file row : List ℕ) → RibbonFile file row → Prints (CheckLine row) list (program list file)
