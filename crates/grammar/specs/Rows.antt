-- The scan of one row, byte by byte: whether it keeps the grammar, its fields without quotes, and what comes after it.
use Rattle.std.specs.Prelude.{Bool, true, false, ◌&&◌, ◌||◌, List, [], ◌∷◌, ℕ, eqb, get_or, drop}
use Rattle.lists.specs.Fit.{plain}
use Rattle.grammar.specs.Files.{quote, comma, cr, lf, add}

-- a row as scanned
pub record Row : Type 0 where
  pub good : Bool
  pub fields : List (List ℕ)
  pub rest : List ℕ

abbrev pub row : Bool → List (List ℕ) → List ℕ → Row
row g f r = record { good = g; fields = f; rest = r }

-- it breaks the grammar
abbrev pub broken : Row
broken = row false [] []

-- where the scan stands: a field begins, in an unquoted one, or after a closing quote; or inside quotes
pub data Outside : Type 0 where
  at_start : Outside
  in_text : Outside
  after_quote : Outside

pub data Mode : Type 0 where
  outside : Outside → Mode
  inside : Mode

-- an unquoted field may begin or go on here
abbrev pub takes_text : Outside → Bool
takes_text at_start = true
takes_text in_text = true
takes_text after_quote = false

-- a byte that may stand inside quotes, the quote apart
abbrev pub quotable : ℕ → Bool
quotable b = plain b || (eqb b cr || eqb b lf)

-- CR LF comes next
abbrev pub line_end : List ℕ → Bool
line_end s = eqb (get_or s 0 0) cr && eqb (get_or s 1 0) lf

-- the rest of a row, after the fields fs and the content c of the field at hand
abbrev pub row_from : Mode → List (List ℕ) → List ℕ → List ℕ → Row
row_from m fs c [] = elim m [ inside ↦ broken | outside o ↦ row true (add fs c) [] ]
row_from m fs c (b ∷ s) = elim m [
  | inside ↦ elim (eqb b quote) [
    | true ↦ row_from (outside after_quote) fs c s
    | false ↦ elim (quotable b) [ true ↦ row_from inside fs (add c b) s | false ↦ broken ]
  ]
  | outside o ↦ elim (eqb b comma) [
    | true ↦ row_from (outside at_start) (add fs c) [] s
    | false ↦ elim (line_end (b ∷ s)) [
      | true ↦ row true (add fs c) (drop 1 s)
      | false ↦ elim (eqb b quote) [
        | true ↦ elim o [
          | at_start ↦ row_from inside fs c s
          | in_text ↦ broken
          | after_quote ↦ row_from inside fs (add c quote) s
        ]
        | false ↦ elim (plain b && takes_text o) [ true ↦ row_from (outside in_text) fs (add c b) s | false ↦ broken ]
      ]
    ]
  ]
]

-- the row that begins here
abbrev pub first_row : List ℕ → Row
first_row s = row_from (outside at_start) [] [] s
