-- What a sheet gives when it is read row after row by the row reader: the heading, then the five fields of each code.
use Rattle.std.specs.Prelude.{◌≡◌, true, List, [], ◌∷◌, ℕ}
use Rattle.grammar.specs.Rows.{row, first_row}
use Rattle.sheets.specs.Sheet.{PlaceFor, PlacesFor, sheet_heading}

-- read to its end, a text gives these rows
pub data ReadsAs : List ℕ → List (List (List ℕ)) → Type 0 where
  at_end : ReadsAs [] []
  one_row : {here after : List ℕ} {fields : List (List ℕ)} {rows : List (List (List ℕ))}
      → first_row here ≡ row true fields after → ReadsAs after rows → ReadsAs here (fields ∷ rows)

-- for each listed code, in list order, its name, way, start and bands of its place, and how often it passes
pub data FieldsFor (ribbon : List ℕ) : (names codes : List (List ℕ)) → List (List (List ℕ)) → Type 0 where
  no_codes : FieldsFor ribbon [] [] []
  one_code : {name code way start bands places : List ℕ} {names codes : List (List ℕ)} {rows : List (List (List ℕ))}
      → PlaceFor code ribbon way start bands → PlacesFor code ribbon places → FieldsFor ribbon names codes rows
      → FieldsFor ribbon (name ∷ names) (code ∷ codes) ((name ∷ way ∷ start ∷ bands ∷ places ∷ []) ∷ rows)

pub record ReadsBack (names codes : List (List ℕ)) (ribbon sheet : List ℕ) : Type 0 where
  pub rows : List (List (List ℕ))
  pub are_right : FieldsFor ribbon names codes rows
  pub are_read : ReadsAs sheet (sheet_heading ∷ rows)
