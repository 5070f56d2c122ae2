-- Our reader with errors to switch on; with none it is ours, so that an impostor made with one is caught for that one.
use mathlib.Core.Path.{◌≡◌, refl, ap, ◌∙◌}
use mathlib.Core.Bool.{Bool, true, false, ◌&&◌}
use mathlib.Core.List.{List, [], ◌∷◌}
use Prim.Native.Nat.{ℕ, zero, suc}
use lib.Dec.{eqb, ltb, leb}
use lib.ListN.{length, drop}
use Rattle.words.specs.Tests.{pick}
use Rattle.lists.specs.Refusals.{long_file_number, wrong_heading_number, empty_list_number}
use Rattle.lists.specs.Fit.{plain}
use Rattle.grammar.specs.Files.{quote, comma, lf, Orders, orders, bad, add}
use Rattle.grammar.specs.Rows.{Row, row, broken, Outside, at_start, in_text, after_quote, Mode, outside, inside}
use Rattle.grammar.specs.Rows.{takes_text, quotable, line_end, row_from}
use Rattle.grammar.specs.Orders.{head_fault_lem, entry_fault_lem, name_in, code_in, row_fault, rows_from, read_orders_lem}

pub record Errors : Type 0 where
  -- LF alone ends a row; a doubled quote is kept as two; a quote may stand in an unquoted field
  pub lf_ends : Bool
  pub two_quotes : Bool
  pub bare_quotes : Bool
  -- the faults of row 1, and of an entry after entries with these names
  pub of_heading : Row → ℕ
  pub of_entry : List (List ℕ) → List ℕ → List ℕ → ℕ
  -- a lower number in a later row goes first
  pub later_first : Bool

module _ (e : Errors) where
  abbrev row_by : Mode → List (List ℕ) → List ℕ → List ℕ → Row
  row_by m fs c [] = elim m [ inside ↦ broken | outside o ↦ row true (add fs c) [] ]
  row_by m fs c (b ∷ s) = elim m [
    | inside ↦ elim (eqb b quote) [
      | true ↦ row_by (outside after_quote) fs c s
      | false ↦ elim (quotable b) [ true ↦ row_by inside fs (add c b) s | false ↦ broken ]
    ]
    | outside o ↦ elim (eqb b comma) [
      | true ↦ row_by (outside at_start) (add fs c) [] s
      | false ↦ elim (e.lf_ends && eqb b lf) [
        | true ↦ row true (add fs c) s
        | false ↦ elim (line_end (b ∷ s)) [
          | true ↦ row true (add fs c) (drop 1 s)
          | false ↦ elim (eqb b quote) [
            | true ↦ elim o [
              | at_start ↦ row_by inside fs c s
              | in_text ↦ elim e.bare_quotes [ true ↦ row_by (outside in_text) fs (add c quote) s | false ↦ broken ]
              | after_quote ↦ row_by inside fs (pick e.two_quotes (add (add c quote) quote) (add c quote)) s
            ]
            | false ↦ elim (plain b && takes_text o) [ true ↦ row_by (outside in_text) fs (add c b) s | false ↦ broken ]
          ]
        ]
      ]
    ]
  ]

  abbrev rows_by : ℕ → ℕ → List (List ℕ) → List (List ℕ) → List ℕ → Orders
  rows_by zero k ns cs s = orders 0 0 ns cs
  rows_by (suc fuel) k ns cs s =
      let r = row_by (outside at_start) [] [] s in
      let n = row_fault (e.of_entry ns) r in
      elim (eqb (length s) 0) [
        | true ↦ pick (eqb (length cs) 0) (bad empty_list_number 0) (orders 0 0 ns cs)
        | false ↦ elim (eqb n 0) [
          | true ↦ rows_by fuel (suc k) (add ns (name_in r)) (add cs (code_in r)) r.rest
          | false ↦ elim e.later_first [
            | true ↦
                let x = rows_by fuel (suc k) ns cs r.rest in
                pick (leb 1 x.number && ltb x.number n) x (bad n k)
            | false ↦ bad n k
          ]
        ]
      ]

  abbrev pub read_by : List ℕ → Orders
  read_by s =
      let r = row_by (outside at_start) [] [] s in
      let n = e.of_heading r in
      elim (ltb 16384 (length s)) [
        | true ↦ bad long_file_number 0
        | false ↦ elim (eqb (length s) 0) [
          | true ↦ bad wrong_heading_number 0
          | false ↦ elim (eqb n 0) [ true ↦ rows_by (suc (length s)) 2 [] [] r.rest | false ↦ bad n 1 ]
        ]
      ]

-- errors of the scan, and of the table
abbrev pub in_scan : Bool → Bool → Bool → Errors
in_scan l t b = record {
  lf_ends = l;
  two_quotes = t;
  bare_quotes = b;
  of_heading = row_fault head_fault_lem;
  of_entry = entry_fault_lem;
  later_first = false;
}

abbrev pub in_table : (Row → ℕ) → (List (List ℕ) → List ℕ → List ℕ → ℕ) → Bool → Errors
in_table h n l = record {
  lf_ends = false;
  two_quotes = false;
  bare_quotes = false;
  of_heading = h;
  of_entry = n;
  later_first = l;
}

abbrev no_error : Errors
no_error = in_scan false false false

-- with no error
alike : {A : Type 0} (t : Bool) {a b x y : A} → a ≡ x → b ≡ y
    → ◌≡◌ {A = A} (elim t [ true ↦ a | false ↦ b ]) (elim t [ true ↦ x | false ↦ y ])
alike true p q = p
alike false p q = q

same_row : (s : List ℕ) (m : Mode) (fs : List (List ℕ)) (c : List ℕ) → row_by no_error m fs c s ≡ row_from m fs c s
same_row [] m fs c = refl
same_row (b ∷ s) inside fs c =
    alike (eqb b quote)
    (same_row s (outside after_quote) fs c)
    (alike (quotable b) (same_row s inside fs (add c b)) refl)
same_row (b ∷ s) (outside o) fs c =
    alike (eqb b comma) (same_row s (outside at_start) (add fs c) [])
    (alike (line_end (b ∷ s)) refl
    (alike (eqb b quote)
    (at_quote o (same_row s inside fs c) (same_row s inside fs (add c quote)))
    (alike (plain b && takes_text o) (same_row s (outside in_text) fs (add c b)) refl)))
  where
    at_quote : (o : Outside) {p q x y : Row} → p ≡ x → q ≡ y
        → ◌≡◌ {A = Row}
        (elim o [ at_start ↦ p | in_text ↦ broken | after_quote ↦ q ])
        (elim o [ at_start ↦ x | in_text ↦ broken | after_quote ↦ y ])
    at_quote at_start e f = e
    at_quote in_text e f = refl
    at_quote after_quote e f = f

same_rows : (fuel k : ℕ) (ns cs : List (List ℕ)) (s : List ℕ)
    → rows_by no_error fuel k ns cs s ≡ rows_from fuel k ns cs s
same_rows zero k ns cs s = refl
same_rows (suc fuel) k ns cs s =
    let goes_on : Row → Orders = λ r.
    elim (eqb (row_fault (entry_fault_lem ns) r) 0) [
      | true ↦ rows_from fuel (suc k) (add ns (name_in r)) (add cs (code_in r)) r.rest
      | false ↦ bad (row_fault (entry_fault_lem ns) r) k
    ] in
    let r = row_by no_error (outside at_start) [] [] s in
    let rest = same_rows fuel (suc k) (add ns (name_in r)) (add cs (code_in r)) r.rest in
    let first = same_row s (outside at_start) [] [] in
    alike (eqb (length s) 0) refl (alike (eqb (row_fault (entry_fault_lem ns) r) 0) rest refl ∙ ap goes_on first)

pub no_error_ours : (s : List ℕ) → read_by no_error s ≡ read_orders_lem s
no_error_ours s =
    let goes_on : Row → Orders = λ r.
    elim (eqb (row_fault head_fault_lem r) 0) [
      | true ↦ rows_from (suc (length s)) 2 [] [] r.rest
      | false ↦ bad (row_fault head_fault_lem r) 1
    ] in
    let r = row_by no_error (outside at_start) [] [] s in
    let rest = same_rows (suc (length s)) 2 [] [] r.rest in
    let first = same_row s (outside at_start) [] [] in
    alike (ltb 16384 (length s)) refl
    (alike (eqb (length s) 0) refl (alike (eqb (row_fault head_fault_lem r) 0) rest refl ∙ ap goes_on first))
