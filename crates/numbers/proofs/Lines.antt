-- What a program prints, read back: a line of refusal begins with r, as no ribbon, sheet or other line does, and its second
-- field tells the number. So the number is that of the refusal which the claim on the program has for it.
use mathlib.Core.Path.{◌≡◌, refl, sym, ap, subst, ◌∙◌}
use mathlib.Core.Logic.{inl, inr}
use mathlib.Core.List.{List, [], ◌∷◌, ◌++◌, append_assoc}
use Prim.Native.Nat.{ℕ}
use native.Mathlib.Omega.{arith}
use lib.ListN.{get_or}
use Rattle.words.specs.Texts.{text}
use Rattle.words.specs.Lists.{In, Each}
use Rattle.words.specs.Turn.{turned}
use Rattle.words.proofs.Turning.{turned_each}
use Rattle.lists.specs.Refusals.{long_ribbon_number, unknown_colour_number}
use Rattle.lists.specs.Rules.{Band}
use Rattle.grammar.specs.Files.{comma, line_break}
use Rattle.grammar.specs.Rows.{Row, first_row}
use Rattle.grammar.specs.Grammar as g
use Rattle.grammar.specs.Grammar.{unquoted, one, more, RowAt}
use Rattle.grammar.proofs.Scan.{scan_row}
use Rattle.greedy.proofs.Bands.{ribbon_each}
use Rattle.sheets.specs.Decimal.{Digits}
use Rattle.sheets.specs.Sheet.{heading_first}
use Rattle.sheets.proofs.Decimal.{digits_tell}
use Rattle.sheets.proofs.ReadBack.{digits_text}
use Rattle.programs.specs.Prints.{RefusedLine, refused_line, Prints, refuses, writes, RibbonLine, ribbon_line}
use Rattle.programs.specs.Prints.{SheetRows, sheet_rows, CheckLine, long_ribbon, no_colour, missing_line, held_line}
use Rattle.numbers.specs.Numbers.{list_numbers}
use Rattle.numbers.proofs.Files.{reads_number, reads_bands}

-- A line of refusal is a row of the grammar, and its second field tells the number.
line_row : {n row : ℕ} {number counted : List ℕ} → Digits n number → Digits row counted
    → RowAt (text "refused," ++ (number ++ (comma ∷ (counted ++ line_break)))) (text "refused" ∷ number ∷ counted ∷ []) []
line_row {number = a} {counted = b} d e =
    record {
      written = text "refused" ++ (comma ∷ (a ++ (comma ∷ b)));
      after = line_break;
      parts = simp append_assoc;
      is_row = more (unquoted {c = text "refused"} (omega arith)) (more (unquoted (digits_text d)) (one (unquoted (digits_text e))));
      ends = g.line;
    }

line_tells : {n m row col : ℕ} {s t : List ℕ} → RefusedLine n row s → RefusedLine m col t → s ≡ t → n ≡ m
line_tells {n} (refused_line {number = a} d e) (refused_line {number = b} g h) q =
    let r = sym (scan_row (line_row d e)) ∙ ap first_row q ∙ scan_row (line_row g h) in
    let p : a ≡ b = ap (λ (x : Row). get_or x.fields 1 []) r in
    digits_tell (subst (Digits n) p d) g

-- A text that does not begin with r is no line of refusal.
module _ {n row : ℕ} {t : List ℕ} (line : RefusedLine n row t) where
  begins : {u : List ℕ} → u ≡ t → get_or u 0 0 ≡ 114
  begins e = ap (λ (s : List ℕ). get_or s 0 0) e ∙ first line
    where
      first : {s : List ℕ} → RefusedLine n row s → get_or s 0 0 ≡ 114
      first (refused_line d e) = refl

  no_bands_first : (s : List ℕ) → Each Band s → s ++ line_break ≡ t → ⊥
  no_bands_first [] h e = omega (arith, begins e)
  no_bands_first (b ∷ s) h e = omega (arith, begins e, h.0.1)

  pub no_ribbon : {names codes : List (List ℕ)} {u : List ℕ} → Each (Each Band) codes → RibbonLine names codes u → u ≡ t → ⊥
  no_ribbon h (ribbon_line {ribbon} x) e = no_bands_first ribbon (ribbon_each Band turned (turned_each Band) x h) e

  pub no_sheet : {names codes : List (List ℕ)} {u : List ℕ} → SheetRows names codes u → u ≡ t → ⊥
  no_sheet (sheet_rows x (heading_first rs)) e = omega (arith, begins e)

  -- of the check's lines two are refusals, by 15 and by 8
  pub check_number : {ribbon : List ℕ} {names codes : List (List ℕ)} {u : List ℕ} → CheckLine ribbon names codes u → u ≡ t
      → In n (long_ribbon_number ∷ unknown_colour_number ∷ [])
  check_number (long_ribbon x r) e = inl (sym (line_tells r line e))
  check_number (no_colour x y r) e = inr (inl (sym (line_tells r line e)))
  check_number (missing_line x y m d) e = absurd (omega (arith, begins e))
  check_number (held_line x y a r d s) e = absurd (omega (arith, begins e))

  -- What a program prints is the refusal of its list, or what is due for one that is read.
  pub prints_number : {due : (names codes : List (List ℕ)) → List ℕ → Type 0} {list u : List ℕ} (numbers : List ℕ)
      → (In n list_numbers → In n numbers)
      → ((names codes : List (List ℕ)) (s : List ℕ) → Each (Each Band) codes → due names codes s → s ≡ t → In n numbers)
      → Prints due list u → u ≡ t → In n numbers
  prints_number numbers of_list_file other (refuses r p l) e =
      of_list_file (subst (λ (k : ℕ). In k list_numbers) (line_tells l line e) (reads_number r p))
  prints_number numbers of_list_file other (writes {names} {codes} {t = s} r d) e = other names codes s (reads_bands r) d e
