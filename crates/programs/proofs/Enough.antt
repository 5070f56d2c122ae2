-- Reading so much of its files is enough for a program: what is longer is refused for its length, whatever comes after.
use mathlib.Core.Path.{◌≡◌, sym, ap, ◌∙◌}
use mathlib.Core.Bool.{Bool, true, false}
use mathlib.Core.List.{List, []}
use Prim.Native.Nat.{ℕ, ◌-◌, ◌≤◌, ◌<◌}
use native.Mathlib.Omega.{arith}
use lib.ListN.{length, take, drop}
use lib.Seq.{length-take-le, take_all}
use Rattle.words.specs.Tests.{pick, same}
use Rattle.words.specs.Decides.{Decides, yes, no}
use Rattle.words.proofs.Deciding.{is_le}
use Rattle.lists.specs.Refusals.{whole, long_file_number, long_ribbon_number}
use Rattle.grammar.specs.Files.{line_break, Orders, bad}
use Rattle.grammar.specs.Grammar.{long_file}
use Rattle.grammar.specs.Orders.{read_orders_lem}
use Rattle.grammar.specs.RibbonFile.{ribbon_of_lem}
use Rattle.grammar.proofs.Only.{reads_only}
use Rattle.programs.specs.Programs.{refused_line_lem, written_for, of_list, checked_line, check_output_lem, ReadsEnough}
use Rattle.programs.specs.Prints as prints
use Rattle.programs.proofs.Prints.{line_ours, check_line_only}

-- what is the same of all rows from a length on needs no more of a row
same_of_start : {A : Type 0} (f : List ℕ → A) (n : ℕ) (end : A) → ((s : List ℕ) → n ≤ length s → f s ≡ end) → (s : List ℕ)
    → f (take n s) ≡ f s
same_of_start f n end long s = by (is_le (length s) n)
  where
    by : {t : Bool} → Decides (length s ≤ n) t → f (take n s) ≡ f s
    by (yes h) = ap f (take_all n s h)
    by (no h) =
        let size = length-take-le n s (omega arith) in
        long (take n s) (omega arith) ∙ sym (long s (omega arith))

long_list : (s : List ℕ) → 16385 ≤ length s → read_orders_lem s ≡ bad long_file_number 0
long_list s h = reads_only {s = s} (long_file (omega arith))

of_list_file : (written : Orders → List ℕ) (file : List ℕ) → of_list written (take 16385 file) ≡ of_list written file
of_list_file written file =
    ap (written_for written) (same_of_start read_orders_lem 16385 (bad long_file_number 0) long_list file)

-- CR LF is all that is taken off
ribbon_long : (s : List ℕ) → length s - 2 ≤ length (ribbon_of_lem s)
ribbon_long s = by (same (drop (length s - 2) s) line_break)
  where
    by : (t : Bool) → length s - 2 ≤ length (pick t (take (length s - 2) s) s)
    by true = omega (arith, length-take-le (length s - 2) s (omega arith))
    by false = omega arith

long_ribbon : (codes : List (List ℕ)) (s : List ℕ) → 16387 ≤ length s
    → checked_line codes (ribbon_of_lem s) ≡ refused_line_lem (whole long_ribbon_number)
long_ribbon codes s h =
    let l : 16384 < length (ribbon_of_lem s) = omega (arith, ribbon_long s) in
    sym (check_line_only (ribbon_of_lem s) [] codes (prints.long_ribbon l (line_ours long_ribbon_number 0)))

of_ribbon : (list file : List ℕ) → check_output_lem list (take 16387 file) ≡ check_output_lem list file
of_ribbon list file =
    let x = read_orders_lem list in
    ap (λ (t : List ℕ). written_for (λ _. t) x)
    (same_of_start (λ s. checked_line x.codes (ribbon_of_lem s)) 16387 (refused_line_lem (whole long_ribbon_number))
    (long_ribbon x.codes) file)

pub reads_enough : ReadsEnough
reads_enough = record { of_list_file = of_list_file; of_ribbon = of_ribbon }
