-- The sheet as it is written row after row: from the names, the codes' lengths, the ribbon and what is shown of each code.
use Rattle.std.specs.Prelude.{List, [], ◌∷◌, ◌++◌, ℕ, ◌+◌, ◌≤◌, ◌<◌, ◌≡◌, length, get_or}
use Rattle.words.specs.Texts.{text}
use Rattle.lists.specs.Runs.{codes_in, total}
use Rattle.greedy.specs.Dropping.{code_at}
use Rattle.grammar.specs.Files.{comma, line_break}
use Rattle.grammar.specs.Quoting.{field_text}
use Rattle.places.specs.Calls.{way_at}
use Rattle.finding.specs.Answers.{start_of}
use Rattle.finding.specs.declared.Way.{Way}
use Rattle.finding.specs.declared.Way.TheVariants.{Given, Turned, Either}
use Rattle.sheets.specs.Decimal.{decimal}
use Rattle.sheets.specs.Sheet.{row_text, sheet_heading, place_fields}
use Rattle.sheet_rows.specs.Shows.{nth_shown}
use Rattle.sheet_rows.specs.declared.pieces.Shown.{Shown}

-- the row of a name and of a code of so many bands, by what is shown of it
abbrev pub placed_row : List ℕ → ℕ → Shown → List ℕ → List ℕ
placed_row name n s ribbon = row_text (field_text name ∷ place_fields ribbon n (way_at s.way) s.places)

abbrev pub placed_rows : List (List ℕ) → List ℕ → List Shown → List ℕ → List ℕ
placed_rows [] ls ss ribbon = []
placed_rows (n ∷ ns) [] ss ribbon = []
placed_rows (n ∷ ns) (l ∷ ls) [] ribbon = []
placed_rows (n ∷ ns) (l ∷ ls) (s ∷ ss) ribbon = placed_row n l s ribbon ++ placed_rows ns ls ss ribbon

abbrev pub placed_sheet : List (List ℕ) → List ℕ → List Shown → List ℕ → List ℕ
placed_sheet names ls ss ribbon = row_text sheet_heading ++ placed_rows names ls ss ribbon

-- a way between its two commas
abbrev pub way_text : Way ℕ → List ℕ
way_text (Given i) = text ",given,"
way_text (Turned i) = text ",turned,"
way_text (Either i) = text ",either,"

-- a number of places between its comma and the end of the row
abbrev pub places_text : ℕ → List ℕ
places_text k = comma ∷ (decimal k ++ line_break)

-- the row of code i
abbrev pub nth_row : (names sizes ls : List ℕ) → List Shown → List ℕ → ℕ → List ℕ
nth_row names sizes ls ss ribbon i = placed_row (code_at (codes_in names sizes) i) (get_or ls i 0) (nth_shown ss i) ribbon

-- Names, lengths and what is shown are there for each code, and each place lies on the ribbon.
pub record RowsThere (names sizes ls : List ℕ) (ss : List Shown) (ribbon : List ℕ) : Type 0 where
  pub few : length ls ≤ 128
  pub one_each : length sizes ≡ length ls
  pub names_there : total sizes ≤ length names
  pub shown_there : length ls ≤ length ss
  pub short : (i : ℕ) → i < length ls → get_or ls i 0 ≤ 64
  pub on_ribbon : (i : ℕ) → i < length ls → start_of (nth_shown ss i).way + get_or ls i 0 ≤ length ribbon
