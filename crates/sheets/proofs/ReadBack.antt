-- A sheet read back: what meets the claim on a sheet is, row for row, a row of the grammar with these five fields, and
-- the row reader gives the fields of a row of the grammar.
use mathlib.Core.Path.{refl}
use mathlib.Core.List.{List, [], ◌∷◌, ◌++◌, append_assoc}
use Prim.Native.Nat.{ℕ, ◌+◌}
use native.Mathlib.Omega.{arith}
use Rattle.words.specs.Lists.{Each}
use Rattle.words.proofs.Lists.{each_append, each_map}
use Rattle.words.proofs.Turning.{turned_each}
use Rattle.lists.specs.Rules.{Band, Printed}
use Rattle.grammar.specs.Files.{comma, line_break}
use Rattle.grammar.specs.Grammar.{Text, Field, unquoted, one, more, line, RowAt}
use Rattle.grammar.proofs.Scan.{scan_row}
use Rattle.grammar.proofs.Quoting.{written_field}
use Rattle.sheets.specs.Decimal.{Digits, one_digit, one_more}
use Rattle.sheets.specs.Sheet.{five_fields, PlaceFor, as_given, as_turned, as_either, PlacesFor, so_often, row_for}
use Rattle.sheets.specs.Sheet.{RowsFor, none, next, SheetFor, heading_first}
use Rattle.sheets.specs.ReadBack.{ReadsAs, at_end, one_row, no_codes, one_code, FieldsFor, ReadsBack}

-- what the fields after the name are made of
pub digits_text : {v : ℕ} {t : List ℕ} → Digits v t → Each Text t
digits_text (one_digit l) = omega arith
digits_text (one_more {d} {t} p h l) = each_append Text t ((48 + d) ∷ []) (digits_text h) (omega arith)

bands_text : (c : List ℕ) → Each Band c → Each Text c
bands_text c h = each_map Band Text (λ b l. omega arith) c h

place_text : {code ribbon way start bands : List ℕ} → PlaceFor code ribbon way start bands → Each Band code
    → Each Text way × Each Text start × Each Text bands
place_text {code} (as_given p d) h = (omega arith, digits_text d, bands_text code h)
place_text {code} (as_turned p d) h = (omega arith, digits_text d, turned_each Text code (bands_text code h))
place_text {code} (as_either p d) h = (omega arith, digits_text d, bands_text code h)

places_text_lem : {code ribbon places : List ℕ} → PlacesFor code ribbon places → Each Text places
places_text_lem (so_often q d) = digits_text d

-- so a row is one, and what comes after it comes after it
row_at : (field way start bands places rest : List ℕ) {name : List ℕ} → Field field name
    → Each Text way × Each Text start × Each Text bands → Each Text places
    → RowAt (five_fields field way start bands places ++ rest) (name ∷ way ∷ start ∷ bands ∷ places ∷ []) rest
row_at field way start bands places rest f (w, s, b) p =
    record {
      written = field ++ (comma ∷ (way ++ (comma ∷ (start ++ (comma ∷ (bands ++ (comma ∷ places)))))));
      after = line_break ++ rest;
      parts = simp append_assoc;
      is_row = more f (more (unquoted w) (more (unquoted s) (more (unquoted b) (one (unquoted p)))));
      ends = line;
    }

-- row after row
rows_back : {ribbon : List ℕ} {names codes : List (List ℕ)} {t : List ℕ} → RowsFor ribbon names codes t → Each (Each Printed) names
    → Each (Each Band) codes → (rows : List (List (List ℕ))) × FieldsFor ribbon names codes rows × ReadsAs t rows
rows_back none n c = ([], no_codes, at_end)
rows_back (next {name} {rows} (row_for {field} {way} {start} {bands} {places} w p k) rs) (n, ns) (c, cs) =
    let (fields, right, read) = rows_back rs ns cs in
    let r = row_at field way start bands places rows (written_field n w) (place_text p c) (places_text_lem k) in
    ((name ∷ way ∷ start ∷ bands ∷ places ∷ []) ∷ fields, one_code p k right, one_row (scan_row r) read)

pub reads_back : {names codes : List (List ℕ)} {ribbon sheet : List ℕ} → SheetFor names codes ribbon sheet
    → Each (Each Printed) names → Each (Each Band) codes → ReadsBack names codes ribbon sheet
reads_back (heading_first rs) n c =
    let (rows, right, read) = rows_back rs n c in
    record { rows = rows; are_right = right; are_read = one_row refl read }
