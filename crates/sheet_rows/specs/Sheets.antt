-- The rows of a sheet, by what they are made of.
use Rattle.std.specs.Prelude.{List, ◌∷◌, ◌++◌, ℕ}
use Rattle.lists.specs.Handed.{words_of}
use Rattle.grammar.specs.Files.{comma}
use Rattle.grammar.specs.Quoting.{field_text}
use Rattle.sheets.specs.Decimal.{decimal}
use Rattle.sheet_rows.specs.Placed.{way_text, places_text, nth_row, placed_rows, placed_sheet}
use Rattle.sheet_rows.specs.declared.rows.Row.{Row}
use Rattle.sheet_rows.specs.declared.rows.Rows.{Rows}

-- a row by its columns, with commas between them, and CR LF
abbrev pub five_columns : Row → List ℕ
five_columns r =
    field_text r.name.now ++ (way_text r.way ++ (decimal r.start ++ (comma ∷ (r.bands.now ++ places_text r.places))))

-- the row of code i
abbrev pub nth : Rows → ℕ → List ℕ
nth r i = nth_row r.names.bytes.now r.names.sizes.now r.lengths.now r.shown.now r.ribbon.now i

-- all rows
abbrev pub all_rows : Rows → List ℕ
all_rows r = placed_rows (words_of r.names) r.lengths.now r.shown.now r.ribbon.now

-- the heading and the rows
abbrev pub sheet : Rows → List ℕ
sheet r = placed_sheet (words_of r.names) r.lengths.now r.shown.now r.ribbon.now
