-- The claims on the programs: ours meet them, and nothing else does. An order list is refused or read; then each part of a
-- line has one text, by the claims on what it tells.
use mathlib.Core.Path.{◌≡◌, refl, sym, ap, ap₂, subst, ◌∙◌}
use mathlib.Core.Bool.{Bool, true, false, not}
use mathlib.Core.List.{List, ◌∷◌, ◌++◌}
use Prim.Native.Nat.{ℕ, suc, ◌≤◌, ◌<◌}
use native.Mathlib.Omega.{arith}
use lib.Dec.{eqb, ltb}
use lib.IntN.{ℤ, pos, negsuc}
use lib.ListN.{length, length-map}
use borrow.Author.Tests.{ne_eqb}
use Rattle.words.specs.Texts.{text}
use Rattle.words.specs.Lists.{Each}
use Rattle.words.specs.Turn.{turned}
use Rattle.words.specs.Decides.{Decides, yes, no}
use Rattle.words.proofs.Deciding.{passes, refuses, is_lt, not_lt}
use Rattle.words.proofs.Lists.{each_map}
use Rattle.lists.specs.Refusals.{refusal, whole, long_ribbon_number, unknown_colour_number, when, first_of}
use Rattle.lists.specs.Rules.{Band, Printed, NameRule}
use Rattle.lists.specs.Fit.{all_bands_lem}
use Rattle.lists.proofs.Rules.{all_bands}
use Rattle.grammar.specs.Files.{comma, line_break, Orders, orders, bad}
use Rattle.grammar.specs.Grammar as g
use Rattle.grammar.specs.RibbonFile.{ribbon_of_lem}
use Rattle.grammar.proofs.Reading.{reads_ours}
use Rattle.grammar.proofs.Only.{reads_only}
use Rattle.grammar.proofs.Exactly.{Accepted, Kind, unfit, tells, kind}
use Rattle.grammar.proofs.RibbonFile.{takes_ours, file_only}
use Rattle.greedy.specs.Layout.{ribbon_for}
use Rattle.greedy.proofs.Claims.{lays_ours, lays_only}
use Rattle.checking.specs.Check.{Missing, none_missing, missing, missing_on, IsMissing, all_held, lowest}
use Rattle.checking.specs.Answers.{Difference, less}
use Rattle.checking.proofs.Check.{misses_ours, missing_one}
use Rattle.checking.proofs.Answers.{difference, difference_one}
use Rattle.sheets.specs.Sheet.{SheetFor, sheet_text_lem}
use Rattle.sheets.proofs.Decimal.{digits_ours, digits_one}
use Rattle.sheets.proofs.Sheet.{sheet_ours, sheet_only}
use Rattle.programs.specs.Programs.{refused_line_lem, written_for, of_list, signed, found_line, checked_line}
use Rattle.programs.specs.Programs.{ribbon_output_lem, sheet_output_lem, check_output_lem}
use Rattle.programs.specs.Prints as p

-- lines of refusals
pub line_ours : (n row : ℕ) → p.RefusedLine n row (refused_line_lem (refusal n row))
line_ours n row = p.refused_line (digits_ours n) (digits_ours row)

line_only : {n row : ℕ} {t : List ℕ} → p.RefusedLine n row t → t ≡ refused_line_lem (refusal n row)
line_only {n} {row} (p.refused_line d e) =
    ap₂ (λ (a b : List ℕ). text "refused," ++ (a ++ (comma ∷ (b ++ line_break)))) (digits_one d (digits_ours n))
    (digits_one e (digits_ours row))

-- A program that writes what is due for a list that is accepted, and only that.
module _ (Due : List (List ℕ) → List (List ℕ) → List ℕ → Type 0) (written : Orders → List ℕ) (list : List ℕ) where
  prints_ours : ((es : List g.Entry) → Accepted list es → Due (g.names es) (g.codes es) (written (orders 0 0 (g.names es) (g.codes es))))
      → p.Prints Due list (of_list written list)
  prints_ours due = by (reads_ours list) (kind (reads_ours list))
    where
      by : {x : Orders} → g.Reads list x → Kind list x → p.Prints Due list (written_for written x)
      by r (unfit {n} {l} h) = let e = ne_eqb n 0 (omega arith) in rw (e, written_for) (p.refuses r h (line_ours n l))
      by r (tells {es} a) = p.writes r (due es a)

  prints_only : {t : List ℕ}
      → ((names codes : List (List ℕ)) (t : List ℕ) → Due names codes t → t ≡ written (orders 0 0 names codes))
      → p.Prints Due list t → t ≡ of_list written list
  prints_only due (p.refuses {n} {row} r h l) =
      let e = ne_eqb n 0 (omega arith) in
      let f : written_for written (bad n row) ≡ refused_line_lem (refusal n row) = rw (e, written_for) refl in
      line_only l ∙ sym f ∙ ap (written_for written) (sym (reads_only r))
  prints_only due (p.writes {names} {codes} {t} r d) = due names codes t d ∙ ap (written_for written) (sym (reads_only r))

pub ribbon_program_ours : p.RibbonProgram ribbon_output_lem
ribbon_program_ours list =
    prints_ours p.RibbonLine (λ x. ribbon_for turned x.codes ++ line_break) list
    (λ es a. p.ribbon_line (lays_ours turned (g.codes es)))

ribbon_line_only : {names codes : List (List ℕ)} {t : List ℕ} → p.RibbonLine names codes t → t ≡ ribbon_for turned codes ++ line_break
ribbon_line_only (p.ribbon_line l) = ap (λ (r : List ℕ). r ++ line_break) (lays_only turned l).0

pub ribbon_program_only : (program : List ℕ → List ℕ) → p.RibbonProgram program → (list : List ℕ)
    → program list ≡ ribbon_output_lem list
ribbon_program_only program h list =
    prints_only p.RibbonLine (λ x. ribbon_for turned x.codes ++ line_break) list (λ ns cs t x. ribbon_line_only x) (h list)

-- names of an accepted list are printed, and there is one for each code
pub sheet_program_ours : p.SheetProgram sheet_output_lem
sheet_program_ours list =
    prints_ours p.SheetRows (λ x. sheet_text_lem x.names x.codes) list (λ es a.
    p.sheet_rows (lays_ours turned (g.codes es))
    (sheet_ours (g.names es) (g.codes es)
    (length-map es (λ (e : g.Entry). e.name) ∙ sym (length-map es (λ (e : g.Entry). e.code)))
    (each_map NameRule (Each Printed) (λ n r. r.2) (g.names es) a.passed.keeps.named)))

sheet_rows_only : {names codes : List (List ℕ)} {t : List ℕ} → p.SheetRows names codes t → t ≡ sheet_text_lem names codes
sheet_rows_only {names} {codes} {t} (p.sheet_rows l s) =
    sheet_only (subst (λ (r : List ℕ). SheetFor names codes r t) (lays_only turned l).0 s)

pub sheet_program_only : (program : List ℕ → List ℕ) → p.SheetProgram program → (list : List ℕ)
    → program list ≡ sheet_output_lem list
sheet_program_only program h list =
    prints_only p.SheetRows (λ x. sheet_text_lem x.names x.codes) list (λ ns cs t x. sheet_rows_only x) (h list)

-- the difference, and the line of a check by its tests: of the ribbon's length and bands, and of missing codes
pub signed_ours : (d : ℤ) → p.Signed d (signed d)
signed_ours (pos n) = p.at_least_0 (digits_ours n)
signed_ours (negsuc n) = p.below_0 (digits_ours (suc n))

signed_only : {d : ℤ} {t : List ℕ} → p.Signed d t → t ≡ signed d
signed_only (p.at_least_0 {n} x) = digits_one x (digits_ours n)
signed_only (p.below_0 {n} x) = ap (λ (s : List ℕ). text "-" ++ s) (digits_one x (digits_ours (suc n)))

module _ (row : List ℕ) (names codes : List (List ℕ)) where
  abbrev by_tests : Bool → Bool → Missing → List ℕ
  by_tests long ok m =
      let f = first_of (when long long_ribbon_number) (when (not ok) unknown_colour_number) in
      elim (eqb f 0) [
        | true ↦ found_line (less (length row) (length (ribbon_for turned codes))) m
        | false ↦ refused_line_lem (whole f)
      ]

  check_line_ours : p.CheckLine row names codes (checked_line codes row)
  check_line_ours = by (is_lt 16384 (length row)) (all_bands row) (misses_ours turned codes row)
    where
      by : {long ok : Bool} {m : Missing} → Decides (16384 < length row) long → Decides (Each Band row) ok
          → IsMissing turned codes row m → p.CheckLine row names codes (by_tests long ok m)
      by (yes l) b m = p.long_ribbon l (line_ours long_ribbon_number 0)
      by (no l) (no b) m = p.no_colour (not_lt l) b (line_ours unknown_colour_number 0)
      by (no l) (yes b) (lowest {k} x y z) = p.missing_line (not_lt l) b (lowest x y z) (digits_ours k)
      by (no l) (yes b) (all_held a) =
          p.held_line (not_lt l) b a (lays_ours turned codes) (difference (length row) (length (ribbon_for turned codes)))
          (signed_ours (less (length row) (length (ribbon_for turned codes))))

  if_tests : (long ok : Bool) (m : Missing) → ltb 16384 (length row) ≡ long → all_bands_lem row ≡ ok
      → missing_on turned codes row ≡ m → checked_line codes row ≡ by_tests long ok m
  if_tests long ok m a b c = so
    where
      so : by_tests (ltb 16384 (length row)) (all_bands_lem row) (missing_on turned codes row) ≡ by_tests long ok m
      so = rw (a, b, c)

  fits : length row ≤ 16384 → ltb 16384 (length row) ≡ false
  fits l = refuses (is_lt 16384 (length row)) (λ h. omega arith)

  pub check_line_only : {t : List ℕ} → p.CheckLine row names codes t → t ≡ checked_line codes row
  check_line_only (p.long_ribbon l r) =
      line_only r ∙ sym (if_tests true _ _ (passes (is_lt 16384 (length row)) l) refl refl)
  check_line_only (p.no_colour l b r) = line_only r ∙ sym (if_tests false false _ (fits l) (refuses (all_bands row) b) refl)
  check_line_only (p.missing_line {k} l b m d) =
      ap (λ (s : List ℕ). text "missing," ++ (s ++ line_break)) (digits_one d (digits_ours k))
      ∙ sym (if_tests false true (missing k) (fits l) (passes (all_bands row) b) (missing_one (misses_ours turned codes row) m))
  check_line_only (p.held_line {ribbon} {t} {saved} {d} l b a x y s) =
      let g : Difference (length row) (length (ribbon_for turned codes)) d =
      subst (λ (r : List ℕ). Difference (length row) (length r) d) (lays_only turned x).0 y in
      let e = difference_one g (difference (length row) (length (ribbon_for turned codes))) in
      ap (λ (s : List ℕ). text "held," ++ (s ++ line_break)) (signed_only s ∙ ap signed e)
      ∙ sym (if_tests false true none_missing (fits l) (passes (all_bands row) b)
      (missing_one (misses_ours turned codes row) (all_held a)))

pub check_program_ours : p.CheckProgram check_output_lem
check_program_ours list file row r =
    subst (λ (s : List ℕ). p.Prints (p.CheckLine row) list (of_list (λ x. checked_line x.codes s) list)) (sym (file_only r))
    (prints_ours (p.CheckLine row) (λ x. checked_line x.codes row) list
    (λ es a. check_line_ours row (g.names es) (g.codes es)))

pub check_program_only : (program : List ℕ → List ℕ → List ℕ) → p.CheckProgram program → (list file : List ℕ)
    → program list file ≡ check_output_lem list file
check_program_only program h list file =
    let row = ribbon_of_lem file in
    prints_only (p.CheckLine row) (λ x. checked_line x.codes row) list (λ ns cs t x. check_line_only row ns cs x)
    (h list file row (takes_ours file))
