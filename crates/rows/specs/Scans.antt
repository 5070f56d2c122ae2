-- What reading one row of a file into buffers gives: the row that the scan gives, with the contents of its first two fields
-- at the beginnings of two buffers.
use Rattle.std.specs.Prelude.{◌≡◌, true, false, List, ℕ, ◌≤◌, ◌<◌, length, take, drop, Option, Some, None}
use Rattle.grammar.specs.Rows.{Row, first_row}
use Rattle.grammar.specs.Orders.{name_in, code_in}
use Rattle.rows.specs.declared.scan.RowRead.{RowRead}

-- two buffers take whatever fields the row that begins here has
abbrev pub TakesRow : List ℕ → List ℕ → List ℕ → Type 0
TakesRow here names bands = (length here ≤ length names) × (length here ≤ length bands)

-- the row x: how wide it is, what comes after it, and its two fields where it has two
pub record RowFound (here names bands : List ℕ) (x : Row) (r : RowRead) : Type 0 where
  pub good : x.good ≡ true
  pub width : r.fields ≡ length x.fields
  pub rest : drop r.size here ≡ x.rest
  pub within : r.size ≤ length here
  pub onward : 0 < length here → 0 < r.size
  pub name_fits : r.name ≤ r.size
  pub code_fits : r.code ≤ r.size
  pub name_is : length x.fields ≡ 2 → name_in x ≡ take r.name names
  pub code_is : length x.fields ≡ 2 → code_in x ≡ take r.code bands

-- the row that begins here, where it keeps the grammar
abbrev pub ReadsRow : List ℕ → List ℕ → List ℕ → Option RowRead → Type 0
ReadsRow here names bands None = (first_row here).good ≡ false
ReadsRow here names bands (Some r) = RowFound here names bands (first_row here) r
