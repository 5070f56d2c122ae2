-- Wrong readers, each caught by the claim on a small file: there the claim asks for our answer, and theirs is another.
use mathlib.Core.Path.{ap}
use mathlib.Core.Logic.{◌≢◌}
use mathlib.Core.Bool.{Bool, true, false, ◌&&◌, not}
use mathlib.Core.List.{List, [], ◌∷◌, ◌++◌, reverse}
use Prim.Native.Nat.{ℕ, zero, suc, ◌+◌, ◌-◌, ◌/◌, ◌%◌}
use native.Mathlib.Omega.{arith}
use lib.Dec.{eqb, leb}
use lib.ListN.{length, get_or, replicate, length-replicate}
use Rattle.words.specs.Texts.{text}
use Rattle.words.specs.Tests.{pick}
use Rattle.lists.specs.Refusals.{long_file_number, broken_row_number, wrong_width_number, wrong_heading_number, bad_name_number, no_bands_number, long_code_number}
use Rattle.lists.specs.Refusals.{unknown_colour_number, name_taken_number, list_full_number, empty_list_number}
use Rattle.lists.specs.Fit.{is_in, all_bands_lem}
use Rattle.grammar.specs.Files.{Orders, orders, bad}
use Rattle.grammar.specs.Rows.{first_row}
use Rattle.grammar.specs.Grammar.{Meets, Reads, long_file}
use Rattle.grammar.specs.Orders.{head_fault_lem, entry_fault_lem, row_fault, read_orders_lem}
use Rattle.grammar.proofs.Only.{reads_only}
use Rattle.grammar.proofs.WrongReader.{read_by, in_scan, in_table}

-- caught on a file where the two answers look different
caught : (read : List ℕ → Orders) (s : List ℕ) (look : Orders → ℕ) → look (read_orders_lem s) ≢ look (read s) → Meets read
    → ⊥
caught read s look d m = d (ap look (reads_only (m s)))

abbrev number : Orders → ℕ
number x = x.number

abbrev first_name : Orders → ℕ
first_name x = length (get_or x.names 0 [])

-- the heading, then these bytes
abbrev pub headed : List ℕ → List ℕ
headed s = text "name,code\r\n" ++ s

-- The answer as a whole.

-- every file refused; on P,A
abbrev refuses_all : List ℕ → Orders
refuses_all s = bad long_file_number 0

pub not_refuses_all : Meets refuses_all → ⊥
not_refuses_all = caught refuses_all (headed (text "P,A")) number (λ e. omega arith)

-- rows counted from 0; on P, and no code
abbrev rows_from_0 : List ℕ → Orders
rows_from_0 s = let x = read_orders_lem s in orders x.number (x.line - 1) x.names x.codes

pub not_rows_from_0 : Meets rows_from_0 → ⊥
not_rows_from_0 = caught rows_from_0 (headed (text "P,")) (λ x. x.line) (λ e. omega arith)

-- names turned round; on P,A CR LF QQ,B
abbrev names_turned : List ℕ → Orders
names_turned s = let x = read_orders_lem s in orders x.number x.line (reverse x.names) x.codes

pub not_names_turned : Meets names_turned → ⊥
not_names_turned =
    caught names_turned (headed (text "P,A\r\nQQ,B")) first_name (λ e. omega arith)

-- an empty list accepted; on the heading alone
abbrev empty_accepted : List ℕ → Orders
empty_accepted s = let x = read_orders_lem s in pick (eqb x.number empty_list_number) (orders 0 0 [] []) x

pub not_empty_accepted : Meets empty_accepted → ⊥
not_empty_accepted = caught empty_accepted (headed []) number (λ e. omega arith)

-- The grammar.

-- LF ends a row; on P,A LF Q,B
abbrev lf_ends : List ℕ → Orders
lf_ends = read_by (in_scan true false false)

pub not_lf_ends : Meets lf_ends → ⊥
not_lf_ends = caught lf_ends (headed (text "P,A\nQ,B")) number (λ e. omega arith)

-- a doubled quote kept as two; on "P""",A
abbrev two_quotes : List ℕ → Orders
two_quotes = read_by (in_scan false true false)

pub not_two_quotes : Meets two_quotes → ⊥
not_two_quotes =
    caught two_quotes (headed (text "\"P\"\"\",A")) first_name (λ e. omega arith)

-- a quote accepted in an unquoted field; on P",A
abbrev bare_quotes : List ℕ → Orders
bare_quotes = read_by (in_scan false false true)

pub not_bare_quotes : Meets bare_quotes → ⊥
not_bare_quotes = caught bare_quotes (headed (text "P\",A")) number (λ e. omega arith)

-- The table: where the test holds, y is given instead of x.
abbrev instead : ℕ → ℕ → Bool → ℕ → ℕ
instead x y t e = pick (eqb e x && t) y e

abbrev for_entry : (List (List ℕ) → List ℕ → List ℕ → ℕ) → List ℕ → Orders
for_entry f = read_by (in_table (row_fault head_fault_lem) f false)

-- so many rows, with names AA, AB and so on from the last row up, and the code A
abbrev many : ℕ → List ℕ
many zero = []
many (suc i) = (65 + i / 16) ∷ (65 + i % 16) ∷ text ",A\r\n" ++ many i

-- the list full at code 128; on 128 codes
abbrev full_at_128 : List ℕ → Orders
full_at_128 = for_entry (λ ns n c. instead 0 list_full_number (eqb (length ns) 127) (entry_fault_lem ns n c))

pub not_full_at_128 : Meets full_at_128 → ⊥
not_full_at_128 = caught full_at_128 (headed (many 128)) number (λ e. omega arith)

-- the list full at code 130; on 129 codes
abbrev full_at_130 : List ℕ → Orders
full_at_130 = for_entry (λ ns n c. instead list_full_number 0 (eqb (length ns) 128) (entry_fault_lem ns n c))

pub not_full_at_130 : Meets full_at_130 → ⊥
not_full_at_130 = caught full_at_130 (headed (many 129)) number (λ e. omega arith)

-- The order of refusals: the wrong one of two faults. In one row, each pair of neighbouring numbers that a row can
-- have: not 2 and 3 (a broken row has no fields), 4 and 5 (row 1, a row after it), 6 and 7 (no bands, over 64 bytes).

-- 4 before 3; on name,code,
abbrev swapped_3_4 : List ℕ → Orders
swapped_3_4 = read_by (in_table (λ r. instead wrong_width_number wrong_heading_number true (row_fault head_fault_lem r)) entry_fault_lem false)

pub not_swapped_3_4 : Meets swapped_3_4 → ⊥
not_swapped_3_4 = caught swapped_3_4 (text "name,code,") number (λ e. omega arith)

-- 6 before 5; on a comma
abbrev swapped_5_6 : List ℕ → Orders
swapped_5_6 = for_entry (λ ns n c. instead bad_name_number no_bands_number (eqb (length c) 0) (entry_fault_lem ns n c))

pub not_swapped_5_6 : Meets swapped_5_6 → ⊥
not_swapped_5_6 = caught swapped_5_6 (headed (text ",")) number (λ e. omega arith)

-- 8 before 7; on P, and 65 times 1
abbrev swapped_7_8 : List ℕ → Orders
swapped_7_8 = for_entry (λ ns n c. instead long_code_number unknown_colour_number (not (all_bands_lem c)) (entry_fault_lem ns n c))

pub not_swapped_7_8 : Meets swapped_7_8 → ⊥
not_swapped_7_8 = caught swapped_7_8 (headed (text "P," ++ replicate 65 49)) number (λ e. omega arith)

-- 9 before 8; on P,A CR LF P,1
abbrev swapped_8_9 : List ℕ → Orders
swapped_8_9 = for_entry (λ ns n c. instead unknown_colour_number name_taken_number (is_in n ns) (entry_fault_lem ns n c))

pub not_swapped_8_9 : Meets swapped_8_9 → ⊥
not_swapped_8_9 =
    caught swapped_8_9 (headed (text "P,A\r\nP,1")) number (λ e. omega arith)

-- 10 before 9; on 128 codes and AA,A once more
abbrev swapped_9_10 : List ℕ → Orders
swapped_9_10 = for_entry (λ ns n c. instead name_taken_number list_full_number (leb 128 (length ns)) (entry_fault_lem ns n c))

pub not_swapped_9_10 : Meets swapped_9_10 → ⊥
not_swapped_9_10 = caught swapped_9_10 (headed (many 128 ++ text "AA,A")) number (λ e. omega arith)

-- In two rows, a lower number in the later row; on P,1 CR LF ,A
abbrev later_first : List ℕ → Orders
later_first = read_by (in_table (row_fault head_fault_lem) entry_fault_lem true)

pub not_later_first : Meets later_first → ⊥
not_later_first = caught later_first (headed (text "P,1\r\n,A")) number (λ e. omega arith)

-- The heading before the size; on 16,385 bytes that no row has. (11 goes with no other fault: the one row is right, and
-- a heading alone is no long file.)
abbrev heading_first : List ℕ → Orders
heading_first s = let e = row_fault head_fault_lem (first_row s) in pick (eqb e 0) (read_orders_lem s) (bad e 1)

abbrev zeros : List ℕ
zeros = replicate 16385 0

pub not_heading_first : Meets heading_first → ⊥
not_heading_first m =
    let due : Reads zeros (bad long_file_number 0) = long_file (omega (arith, length-replicate {A = ℕ} 16385 0)) in
    let theirs : Reads zeros (bad broken_row_number 1) = m zeros in
    omega (arith, ap number (reads_only due), ap number (reads_only theirs))
