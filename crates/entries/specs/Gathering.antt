-- What the reader's steps give: a row with its fault, and after all rows the answer for the file, with the words gathered
-- in two runs.
use Rattle.std.specs.Prelude.{◌≡◌, List, ℕ, ◌≤◌, length, Result, Ok, Err, IfOk}
use Rattle.std.specs.Borrow.{Bor}
use Rattle.lists.specs.Answers.{number_of, number_told}
use Rattle.lists.specs.declared.numbers.Fault.{Fault}
use Rattle.lists.specs.declared.numbers.Refusal.{Refusal}
use Rattle.lists.specs.declared.handed.Run.{Run}
use Rattle.lists.specs.Runs.{flat, lengths}
use Rattle.grammar.specs.Files.{Orders, orders, bad}
use Rattle.grammar.specs.Rows.{Row, first_row}
use Rattle.grammar.specs.Orders.{row_fault}
use Rattle.rows.specs.Scans.{RowFound}
use Rattle.rows.specs.declared.scan.RowRead.{RowRead}
use Rattle.entries.specs.declared.collect.Gathered.{Gathered}

-- the row x has two fields, at the beginnings of two buffers
pub record TwoFound (here names bands : List ℕ) (x : Row) (r : RowRead) : Type 0 where
  pub row : RowFound here names bands x r
  pub two : r.fields ≡ 2

-- the row that begins here, where it has two fields: its fault is theirs; else it is this, whatever theirs are
abbrev pub ReadsTwo : List ℕ → List ℕ → List ℕ → Result RowRead Fault → Type 0
ReadsTwo here names bands (Ok r) = TwoFound here names bands (first_row here) r
ReadsTwo here names bands (Err f) = (of_two : List ℕ → List ℕ → ℕ) → number_of f ≡ row_fault of_two (first_row here)

-- a test of two fields, by what it answers, finds these faults of them
abbrev pub Finds : (Bor (List ℕ) → Bor (List ℕ) → Result (Unit {0}) Fault → Type 0) → (List ℕ → List ℕ → ℕ) → Type 0
Finds answers of_two = (n c : Bor (List ℕ)) (r : Result (Unit {0}) Fault) → answers n c r → number_told r ≡ of_two n.now c.now

-- the row that begins here, or its fault, where a test of its two fields answers so
pub record ChecksRow (here : List ℕ) (answers : Bor (List ℕ) → Bor (List ℕ) → Result (Unit {0}) Fault → Type 0)
    (names bands : List ℕ) (r : Result RowRead Fault) : Type 0 where
  pub fault : (of_two : List ℕ → List ℕ → ℕ) → Finds answers of_two → number_told r ≡ row_fault of_two (first_row here)
  pub found : IfOk r (λ c. TwoFound here names bands (first_row here) c)

-- words in a run, with as many lengths
pub record Filed (words : List (List ℕ)) (run : Run) : Type 0 where
  pub bytes : run.bytes.now ≡ flat words
  pub sizes : run.sizes.now ≡ lengths words
  pub most_bytes : length run.bytes.now ≤ 16384
  pub most_words : length run.sizes.now ≤ 128

-- the answer for a file, with its codes and its names
pub record Gathering (x : Orders) (g : Gathered) : Type 0 where
  pub accepted : x ≡ orders 0 0 x.names x.codes
  pub codes_filed : Filed x.codes g.codes
  pub names_filed : Filed x.names g.names

-- or refused
abbrev pub Gathers : Orders → Result Gathered Refusal → Type 0
Gathers x (Ok g) = Gathering x g
Gathers x (Err r) = x ≡ bad (number_of r.fault) r.row
