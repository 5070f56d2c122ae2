-- A row by its columns, with its length; and the rows of all codes one after the other, each by the start of its name.
use mathlib.Core.Path.{◌≡◌, refl, ap, ◌∙◌}
use mathlib.Core.List.{List, ◌∷◌, ◌++◌}
use Prim.Native.Nat.{ℕ, ◌+◌, ◌-◌, ◌≤◌, ◌<◌}
use native.Mathlib.Numerals.{add-one}
use native.Mathlib.Omega.{arith}
use lib.ListN.{length, take, drop, get_or, length-append, length-drop}
use lib.Seq.{length-take-le, drop-cons, drop-drop}
use Rattle.lists.specs.Runs.{codes_in, total}
use Rattle.lists.proofs.Runs.{total_more, part_to}
use Rattle.grammar.specs.Files.{comma}
use Rattle.grammar.specs.Quoting.{field_text}
use Rattle.greedy.specs.Dropping.{code_at}
use Rattle.parts.proofs.Cutting.{total_part, code_at_lem}
use Rattle.places.specs.Calls.{way_at}
use Rattle.finding.specs.Answers.{start_of}
use Rattle.finding.specs.declared.Way.{Way}
use Rattle.finding.specs.declared.Way.TheVariants.{Given, Turned, Either}
use Rattle.sheets.specs.Decimal.{decimal}
use Rattle.sheets.specs.Sheet.{row_text, place_fields, bands_at}
use Rattle.sheets.proofs.Decimal.{decimal_few}
use Rattle.fields.proofs.Quoted.{field_few}
use Rattle.sheet_rows.specs.Shows.{unset, nth_shown}
use Rattle.sheet_rows.specs.Placed.{placed_row, way_text, places_text, placed_rows, nth_row, RowsThere}
use Rattle.sheet_rows.specs.Sheets.{five_columns}
use Rattle.sheet_rows.specs.declared.pieces.Shown.{Shown}
use Rattle.sheet_rows.specs.declared.rows.Row.{Row}

way_few : (w : Way ℕ) → length (way_text w) ≤ 8
way_few (Given i) = omega arith
way_few (Turned i) = omega arith
way_few (Either i) = omega arith

module _ (r : Row) where
  -- its length: two commas and CR LF besides name, way, start, bands and places
  columns_long : length (five_columns r)
      ≡ length (field_text r.name.now) + length (way_text r.way) + length (decimal r.start) + length r.bands.now + length (decimal r.places) + 4
  columns_long = simp length-append (omega arith)

  -- it is short, where name and code are
  pub row_short : r.start < 4294967296 → r.places < 4294967296 → length (five_columns r) ≤ 131200
  row_short l m =
      omega (arith, columns_long, field_few r.name.now, way_few r.way, decimal_few r.start l, decimal_few r.places m, r.short.0, r.short.1)

-- The row of code i, whose name starts at `from`, and the rows from it on.
module _ (names sizes ls : List ℕ) (ss : List Shown) (ribbon : List ℕ) (from i : ℕ) where
  abbrev pub row_at : List ℕ
  row_at =
      placed_row (take (from + get_or sizes i 0 - from) (drop from names)) (get_or ls i 0) (nth_shown ss i) ribbon

  abbrev pub rows_from : List ℕ
  rows_from = placed_rows (codes_in (drop from names) (drop i sizes)) (drop i ls) (drop i ss) ribbon

-- The names from a start on are those of the codes from number i on.
abbrev pub Reached : List ℕ → List ℕ → ℕ → ℕ → Type 0
Reached names sizes from i = from + total (drop i sizes) ≤ length names

module _ {names sizes ls : List ℕ} {ss : List Shown} {ribbon : List ℕ}
    (r : RowsThere names sizes ls ss ribbon) where
  pub at_first : Reached names sizes 0 0
  at_first = omega (arith, r.names_there)

  module _ (from i : ℕ) where
    -- One of them: its name, itself and those behind it.
    module _ (h : i < length ls) where
      rows_next : rows_from names sizes ls ss ribbon from i
          ≡ row_at names sizes ls ss ribbon from i ++ rows_from names sizes ls ss ribbon (from + get_or sizes i 0) (i + 1)
      rows_next =
          let s : i < length sizes = omega (arith, r.one_each) in
          let p : i < length ss = omega (arith, r.shown_there) in
          rw (
            add-one,
            part_to names from (get_or sizes i 0),
            drop-cons sizes i 0 s,
            drop-cons ls i 0 h,
            drop-cons ss i unset p,
            drop-drop,
          )

      pub rows_long : length (rows_from names sizes ls ss ribbon from i)
          ≡ length (row_at names sizes ls ss ribbon from i)
          + length (rows_from names sizes ls ss ribbon (from + get_or sizes i 0) (i + 1))
      rows_long = ap length rows_next ∙ length-append (row_at names sizes ls ss ribbon from i) _

      module _ (x : Reached names sizes from i) where
        total_next : total (drop i sizes) ≡ get_or sizes i 0 + total (drop (i + 1) sizes)
        total_next = let s : i < length sizes = omega (arith, r.one_each) in rw (add-one, drop-cons sizes i 0 s)

        pub name_fits : from + get_or sizes i 0 ≤ length names
        name_fits = omega (arith, total_next)

        pub name_long : length (take (from + get_or sizes i 0 - from) (drop from names)) ≡ get_or sizes i 0
        name_long =
            rw (part_to names from (get_or sizes i 0))
            (length-take-le (get_or sizes i 0) (drop from names) (omega (arith, length-drop from names, name_fits)))

-- A row by its columns: the bands are a part of the ribbon.
columns : (name : List ℕ) (n : ℕ) (s : Shown) (ribbon : List ℕ) {start : ℕ} → start ≡ start_of s.way → placed_row name n s ribbon
    ≡ field_text name
    ++ (way_text s.way ++ (decimal start ++ (comma ∷ (take (start + n - start) (drop start ribbon) ++ places_text s.places))))
columns name n s ribbon e = rw (e, part_to ribbon (start_of s.way) n) (by s.way)
  where
    by : (w : Way ℕ) → row_text (field_text name ∷ place_fields ribbon n (way_at w) s.places)
        ≡ field_text name
        ++ (way_text w ++ (decimal (start_of w) ++ (comma ∷ (bands_at ribbon n (start_of w) ++ places_text s.places))))
    by (Given i) = refl
    by (Turned i) = refl
    by (Either i) = refl

-- Its length: two commas and CR LF besides the fields.
pub row_long : (name : List ℕ) (n : ℕ) (s : Shown) (ribbon : List ℕ) {start : ℕ} → start ≡ start_of s.way
    → start_of s.way + n ≤ length ribbon → length (placed_row name n s ribbon)
    ≡ length (field_text name) + length (way_text s.way) + length (decimal start) + n + length (decimal s.places) + 4
row_long name n s ribbon {start} e on =
    let bands : length (take n (drop start ribbon)) ≡ n =
    length-take-le n (drop start ribbon) (omega (arith, length-drop start ribbon)) in
    ap length (columns name n s ribbon e) ∙ rw (part_to ribbon start n) (simp length-append (omega (arith, bands)))

-- The row of code i: its name starts where those before it end.
module _ {names sizes ls : List ℕ} {ss : List Shown} {ribbon : List ℕ} (r : RowsThere names sizes ls ss ribbon)
    (i : ℕ) (h : i < length ls) where
  module _ {from size : ℕ} (e : from ≡ total (take i sizes)) (s : size ≡ get_or sizes i 0) where
    pub nth_name : from + size ≤ length names
    nth_name = omega (arith, e, s, total_part sizes i (omega (arith, r.one_each)), r.names_there)

    pub nth_next : from + length (take (from + size - from) (drop from names)) ≡ total (take (i + 1) sizes)
    nth_next =
        let long : length (take size (drop from names)) ≡ size =
        length-take-le size (drop from names) (omega (arith, length-drop from names, nth_name)) in
        rw (add-one, part_to names from size) (omega (arith, long, e, s, total_more sizes i (omega (arith, h, r.one_each))))

    nth_code : code_at (codes_in names sizes) i ≡ take (from + size - from) (drop from names)
    nth_code = code_at_lem names sizes i (omega (arith, r.one_each)) ∙ rw (part_to names from size, e, s)

  module _ {start n : ℕ} (e : start ≡ start_of (nth_shown ss i).way) (l : n ≡ get_or ls i 0) where
    pub nth_columns : {from size : ℕ} → from ≡ total (take i sizes) → size ≡ get_or sizes i 0 → nth_row names sizes ls ss ribbon i
        ≡ field_text (take (from + size - from) (drop from names))
        ++ (way_text (nth_shown ss i).way
        ++ (decimal start ++ (comma ∷ (take (start + n - start) (drop start ribbon) ++ places_text (nth_shown ss i).places))))
    nth_columns {from} {size} f s =
        let name = nth_code f s in
        rw (name, ← l) (columns (take (from + size - from) (drop from names)) n (nth_shown ss i) ribbon e)
