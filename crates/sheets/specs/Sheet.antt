-- The sheet: the heading row `name,way,start,bands,places`, then one row for each listed code in list order. The claim
-- on the text of a sheet, and ours.
use Rattle.std.specs.Prelude.{List, [], ◌∷◌, ◌++◌, ℕ, length, take, drop}
use Rattle.words.specs.Texts.{text}
use Rattle.words.specs.Turn.{turned}
use Rattle.words.specs.Place.{Place, given_at, turned_at, either_at, nowhere, IsPlace, place_of}
use Rattle.words.specs.Count.{IsCount, count_of}
use Rattle.grammar.specs.Files.{comma, line_break}
use Rattle.grammar.specs.Quoting.{Written, field_text}
use Rattle.greedy.specs.Layout.{ribbon_for}
use Rattle.sheets.specs.Decimal.{Digits, decimal}

-- The claim. Way, start and bands of a code by its place: its bands as they stand on the ribbon are its own, or turned.
pub data PlaceFor (code ribbon : List ℕ) : (way start bands : List ℕ) → Type 0 where
  as_given : {i : ℕ} {start : List ℕ} → IsPlace turned 0 code ribbon (given_at i) → Digits i start
      → PlaceFor code ribbon (text "given") start code
  as_turned : {i : ℕ} {start : List ℕ} → IsPlace turned 0 code ribbon (turned_at i) → Digits i start
      → PlaceFor code ribbon (text "turned") start (turned code)
  as_either : {i : ℕ} {start : List ℕ} → IsPlace turned 0 code ribbon (either_at i) → Digits i start
      → PlaceFor code ribbon (text "either") start code

-- how often a code passes the head: the number of starts at which it stands either way, each start once
pub data PlacesFor (code ribbon : List ℕ) : List ℕ → Type 0 where
  so_often : {n : ℕ} {places : List ℕ} → IsCount turned code ribbon n → Digits n places → PlacesFor code ribbon places

-- the fields of a row with commas between them, and CR LF
abbrev pub five_fields : (field way start bands places : List ℕ) → List ℕ
five_fields field way start bands places =
    field ++ (comma ∷ (way ++ (comma ∷ (start ++ (comma ∷ (bands ++ (comma ∷ (places ++ line_break))))))))

-- a code's row: the name as a field is written, way, start and bands, and how often it passes
pub data RowFor (name code ribbon : List ℕ) : List ℕ → Type 0 where
  row_for : {field way start bands places : List ℕ} → Written name field → PlaceFor code ribbon way start bands
      → PlacesFor code ribbon places → RowFor name code ribbon (five_fields field way start bands places)

-- one row for each code, in list order
pub data RowsFor (ribbon : List ℕ) : (names codes : List (List ℕ)) → List ℕ → Type 0 where
  none : RowsFor ribbon [] [] []
  next : {name code row rows : List ℕ} {names codes : List (List ℕ)} → RowFor name code ribbon row
      → RowsFor ribbon names codes rows → RowsFor ribbon (name ∷ names) (code ∷ codes) (row ++ rows)

pub data SheetFor (names codes : List (List ℕ)) (ribbon : List ℕ) : List ℕ → Type 0 where
  heading_first : {rows : List ℕ} → RowsFor ribbon names codes rows
      → SheetFor names codes ribbon (text "name,way,start,bands,places\r\n" ++ rows)

-- Ours. A row: fields with commas between them, and CR LF.
abbrev pub row_text : List (List ℕ) → List ℕ
row_text [] = line_break
row_text (f ∷ []) = f ++ line_break
row_text (f ∷ (g ∷ fs)) = f ++ (comma ∷ row_text (g ∷ fs))

abbrev pub sheet_heading : List (List ℕ)
sheet_heading = text "name" ∷ text "way" ∷ text "start" ∷ text "bands" ∷ text "places" ∷ []

-- the bands of a code of n bands as they stand on the ribbon from a start on
abbrev pub bands_at : List ℕ → ℕ → ℕ → List ℕ
bands_at ribbon n start = take n (drop start ribbon)

-- way, start and bands of a place, and the number k of places; a code of the list has one, so the last case does not
-- come up
abbrev pub place_fields : List ℕ → ℕ → Place → ℕ → List (List ℕ)
place_fields ribbon n (given_at i) k = text "given" ∷ decimal i ∷ bands_at ribbon n i ∷ decimal k ∷ []
place_fields ribbon n (turned_at i) k = text "turned" ∷ decimal i ∷ bands_at ribbon n i ∷ decimal k ∷ []
place_fields ribbon n (either_at i) k = text "either" ∷ decimal i ∷ bands_at ribbon n i ∷ decimal k ∷ []
place_fields ribbon n nowhere k = []

abbrev pub code_row : List ℕ → List ℕ → List ℕ → List ℕ
code_row name code ribbon =
    row_text (field_text name ∷ place_fields ribbon (length code) (place_of turned 0 code ribbon) (count_of turned code ribbon))

abbrev pub code_rows : List (List ℕ) → List (List ℕ) → List ℕ → List ℕ
code_rows [] cs ribbon = []
code_rows (n ∷ ns) [] ribbon = []
code_rows (n ∷ ns) (c ∷ cs) ribbon = code_row n c ribbon ++ code_rows ns cs ribbon

abbrev pub sheet_text_lem : List (List ℕ) → List (List ℕ) → List ℕ
sheet_text_lem names codes = row_text sheet_heading ++ code_rows names codes (ribbon_for turned codes)
