-- The reader of order lists: refusals 1 to 11.
use Rattle.std.specs.Prelude.{true, false, ◌&&◌, not, List, [], ℕ, zero, suc, eqb, ltb, leb, length, get_or}
use Rattle.words.specs.Tests.{pick, same}
use Rattle.lists.specs.Refusals.{long_file_number, broken_row_number, wrong_width_number, wrong_heading_number, bad_name_number, no_bands_number, long_code_number}
use Rattle.lists.specs.Refusals.{unknown_colour_number, name_taken_number, list_full_number, empty_list_number, when, first_of}
use Rattle.lists.specs.Fit.{is_in, all_bands_lem, name_ok_lem}
use Rattle.grammar.specs.Files.{word_name, word_code, Orders, orders, bad, add}
use Rattle.grammar.specs.Rows.{Row, first_row}

-- the faults of a row with two fields: 4 for the heading, 5 to 10 for an entry after entries with these names
abbrev pub head_fault_lem : List ℕ → List ℕ → ℕ
head_fault_lem n c = when (not (same n word_name && same c word_code)) wrong_heading_number

abbrev pub entry_fault_lem : List (List ℕ) → List ℕ → List ℕ → ℕ
entry_fault_lem names n c =
    first_of (when (not (name_ok_lem n)) bad_name_number)
    (first_of (when (eqb (length c) 0) no_bands_number)
    (first_of (when (ltb 64 (length c)) long_code_number)
    (first_of (when (not (all_bands_lem c)) unknown_colour_number)
    (first_of (when (is_in n names) name_taken_number)
    (when (leb 128 (length names)) list_full_number)))))

-- a row's two fields
abbrev pub name_in : Row → List ℕ
name_in r = get_or r.fields 0 []

abbrev pub code_in : Row → List ℕ
code_in r = get_or r.fields 1 []

-- the fault of a row: 2 and 3 come first
abbrev pub row_fault : (List ℕ → List ℕ → ℕ) → Row → ℕ
row_fault of_two r =
    first_of (when (not r.good) broken_row_number)
    (first_of (when (not (eqb (length r.fields) 2)) wrong_width_number)
    (of_two (name_in r) (code_in r)))

-- the rows from number k on, after entries with these names and codes; fuel as many as bytes are left, and one more
abbrev pub rows_from : ℕ → ℕ → List (List ℕ) → List (List ℕ) → List ℕ → Orders
rows_from zero k ns cs s = orders 0 0 ns cs
rows_from (suc fuel) k ns cs s =
    let r = first_row s in
    let e = row_fault (entry_fault_lem ns) r in
    elim (eqb (length s) 0) [
      | true ↦ pick (eqb (length cs) 0) (bad empty_list_number 0) (orders 0 0 ns cs)
      | false ↦ elim (eqb e 0) [
        | true ↦ rows_from fuel (suc k) (add ns (name_in r)) (add cs (code_in r)) r.rest
        | false ↦ bad e k
      ]
    ]

-- the answer for a file: 1 first, then the earliest faulty row, then 11
abbrev pub read_orders_lem : List ℕ → Orders
read_orders_lem s =
    let r = first_row s in
    let e = row_fault head_fault_lem r in
    elim (ltb 16384 (length s)) [
      | true ↦ bad long_file_number 0
      | false ↦ elim (eqb (length s) 0) [
        | true ↦ bad wrong_heading_number 0
        | false ↦ elim (eqb e 0) [ true ↦ rows_from (suc (length s)) 2 [] [] r.rest | false ↦ bad e 1 ]
      ]
    ]
