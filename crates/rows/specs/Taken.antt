-- What one byte does to the scan of a row, as the code names it.
use Rattle.std.specs.Prelude.{◌≡◌, true, List, [], ◌∷◌, ℕ, drop, slice_get, Option, Some}
use Rattle.grammar.specs.Files.{lf, add}
use Rattle.grammar.specs.Rows.{Row, row, broken, at_start, in_text, after_quote, outside, inside, row_from}
use Rattle.grammar.specs.Rows as rows
use Rattle.rows.specs.declared.scan.Mode.{Mode}
use Rattle.rows.specs.declared.scan.Mode.TheVariants.{Start, Text, AfterQuote, Inside}
use Rattle.rows.specs.declared.scan.Step.{Step}
use Rattle.rows.specs.declared.scan.Step.TheVariants.{Broken, Comma, Ends, Keep, Skip}

abbrev pub mode_of : Mode → rows.Mode
mode_of Start = outside at_start
mode_of Text = outside in_text
mode_of AfterQuote = outside after_quote
mode_of Inside = inside

-- the row, where the byte b after the fields fs and the content c does this, and s comes after it
abbrev pub row_after : Step → List (List ℕ) → List ℕ → ℕ → List ℕ → Row
row_after Broken fs c b s = broken
row_after Comma fs c b s = row_from (outside at_start) (add fs c) [] s
row_after Ends fs c b s = row true (add fs c) (drop 1 s)
row_after (Keep m) fs c b s = row_from (mode_of m) fs (add c b) s
row_after (Skip m) fs c b s = row_from (mode_of m) fs c s

-- what the byte b does where next comes after it, none where the file ends
pub record Takes (m : rows.Mode) (b : ℕ) (next : Option ℕ) (r : Step) : Type 0 where
  pub scans : (fs : List (List ℕ)) (c s : List ℕ) → slice_get s 0 ≡ next → row_from m fs c (b ∷ s) ≡ row_after r fs c b s
  pub before_lf : r ≡ Ends → next ≡ Some lf
