-- What is taken of a list and a ribbon that are supplied.
use Rattle.std.specs.Prelude.{List, ℕ, ◌≡◌, Result, Ok, Err}
use Rattle.lists.specs.Answers.{number_of}
use Rattle.lists.specs.declared.numbers.Fault.{Fault}
use Rattle.checking.specs.Answers.{supplied_fault_lem}
use Rattle.fitness.specs.declared.codes.FitList.{FitList}

-- the list, where there is no fault, or the fault of the list or the ribbon
abbrev pub TakesSupplied : List ℕ → List ℕ → List ℕ → Result FitList Fault → Type 0
TakesSupplied run ls row (Ok list) = (supplied_fault_lem run ls row ≡ 0) × (list.codes.bytes.now ≡ run) × (list.codes.sizes.now ≡ ls)
TakesSupplied run ls row (Err f) = number_of f ≡ supplied_fault_lem run ls row
