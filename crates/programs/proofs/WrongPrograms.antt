-- Wrong programs, each written out and caught by the claim on small files: there the claim asks for our output, and theirs
-- is another.
use mathlib.Core.Path.{ap}
use mathlib.Core.Logic.{◌≢◌}
use mathlib.Core.Bool.{true, false}
use mathlib.Core.List.{List, [], ◌∷◌, ◌++◌}
use Prim.Native.Nat.{ℕ, suc}
use native.Mathlib.Omega.{arith}
use lib.Dec.{eqb}
use lib.IntN.{pos}
use lib.ListN.{length, get_or, take, drop}
use Rattle.words.specs.Texts.{text}
use Rattle.words.specs.Tests.{pick}
use Rattle.words.specs.Turn.{turned}
use Rattle.lists.specs.Refusals.{refusal}
use Rattle.grammar.specs.Orders.{read_orders_lem}
use Rattle.grammar.specs.RibbonFile.{ribbon_of_lem}
use Rattle.greedy.specs.Layout.{ribbon_for}
use Rattle.checking.specs.Check.{none_missing, missing, missing_on}
use Rattle.sheets.specs.Sheet.{row_text, sheet_heading}
use Rattle.programs.specs.Programs.{of_list, refused_line_lem, found_line, checked_line}
use Rattle.programs.specs.Programs.{ribbon_output_lem, sheet_output_lem, check_output_lem}
use Rattle.programs.specs.Prints.{RibbonProgram, SheetProgram, CheckProgram}
use Rattle.programs.proofs.Prints.{ribbon_program_only, sheet_program_only, check_program_only}

abbrev One : Type 0
One = List ℕ → List ℕ

-- the heading, then these bytes
abbrev headed : List ℕ → List ℕ
headed s = text "name,code\r\n" ++ s

caught_ribbon : (program : One) (list : List ℕ) (look : List ℕ → ℕ) → look (program list) ≢ look (ribbon_output_lem list)
    → RibbonProgram program → ⊥
caught_ribbon program list look d h = d (ap look (ribbon_program_only program h list))

caught_sheet : (program : One) (list : List ℕ) (look : List ℕ → ℕ) → look (program list) ≢ look (sheet_output_lem list)
    → SheetProgram program → ⊥
caught_sheet program list look d h = d (ap look (sheet_program_only program h list))

caught_check : (program : List ℕ → List ℕ → List ℕ) (list file : List ℕ) (look : List ℕ → ℕ)
    → look (program list file) ≢ look (check_output_lem list file) → CheckProgram program → ⊥
caught_check program list file look d h = d (ap look (check_program_only program h list file))

-- The ribbon program.

-- every list turned away; on P,AB
abbrev turns_away : One
turns_away list = refused_line_lem (refusal 1 0)

pub not_turns_away : RibbonProgram turns_away → ⊥
unfolding turned
not_turns_away = caught_ribbon turns_away (headed (text "P,AB")) length (λ e. omega arith)

-- a line without CR; on P,AB
abbrev lf_alone : One
lf_alone = of_list (λ x. ribbon_for turned x.codes ++ (10 ∷ []))

pub not_lf_alone : RibbonProgram lf_alone → ⊥
unfolding turned
not_lf_alone = caught_ribbon lf_alone (headed (text "P,AB")) length (λ e. omega arith)

-- a refusal's row before its number; on P and no code, which is 6 in row 2
abbrev row_first : One
row_first list =
    let x = read_orders_lem list in
    elim (eqb x.number 0) [ true ↦ ribbon_output_lem list | false ↦ refused_line_lem (refusal x.line x.number) ]

pub not_row_first : RibbonProgram row_first → ⊥
not_row_first = caught_ribbon row_first (headed (text "P,")) (λ t. get_or t 8 0) (λ e. omega arith)

-- The sheet program: the heading left out; on P,AB
abbrev no_heading : One
no_heading list = drop (length (row_text sheet_heading)) (sheet_output_lem list)

pub not_no_heading : SheetProgram no_heading → ⊥
unfolding turned
not_no_heading = caught_sheet no_heading (headed (text "P,AB")) length (λ e. omega arith)

-- The check program.

-- the ribbon file before the order list; on a list of 0 bytes and a ribbon with a space
abbrev ribbon_first : List ℕ → List ℕ → List ℕ
ribbon_first list file =
    let t = checked_line [] (ribbon_of_lem file) in
    elim (eqb (get_or t 0 0) 114) [ true ↦ t | false ↦ check_output_lem list file ]

pub not_ribbon_first : CheckProgram ribbon_first → ⊥
not_ribbon_first = caught_check ribbon_first [] (text " ") (λ t. get_or t 8 0) (λ e. omega arith)

-- `missing,0` before any search; on AB and its own ribbon
abbrev missing_at_once : List ℕ → List ℕ → List ℕ
missing_at_once list file = text "missing,0\r\n"

pub not_missing_at_once : CheckProgram missing_at_once → ⊥
unfolding turned
not_missing_at_once = caught_check missing_at_once (headed (text "P,AB")) (text "AB") length (λ e. omega arith)

-- the file's CR LF taken for bands; on AB and its own ribbon with CR LF
abbrev with_line_break : List ℕ → List ℕ → List ℕ
with_line_break list file = of_list (λ x. checked_line x.codes file) list

pub not_with_line_break : CheckProgram with_line_break → ⊥
unfolding turned
not_with_line_break = caught_check with_line_break (headed (text "P,AB")) (text "AB\r\n") length (λ e. omega arith)

-- a difference without its sign; on document 01's list with a shorter ribbon than ours
abbrev no_sign : List ℕ → List ℕ → List ℕ
no_sign list file =
    let t = check_output_lem list file in
    pick (eqb (get_or t 5 0) 45) (take 5 t ++ drop 6 t) t

pub not_no_sign : CheckProgram no_sign → ⊥
unfolding turned
not_no_sign =
    caught_check no_sign (headed (text "P,ABB\r\nQ,BBC\r\nR,BBB")) (text "ABBBC") length (λ e. omega arith)

-- codes counted from 1; on AB and no bands
abbrev from_one : List ℕ → List ℕ → List ℕ
from_one list file =
    of_list (λ x. elim (missing_on turned x.codes (ribbon_of_lem file)) [
      | none_missing ↦ check_output_lem list file
      | missing k ↦ found_line (pos 0) (missing (suc k))
    ]) list

pub not_from_one : CheckProgram from_one → ⊥
unfolding turned
not_from_one = caught_check from_one (headed (text "P,AB")) [] (λ t. get_or t 8 0) (λ e. omega arith)
