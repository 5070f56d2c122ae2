-- What is taken for a fit list, and for its names.
use Rattle.std.specs.Prelude.{List, ℕ, ◌≡◌, false, length, Result, Ok, Err}
use Rattle.lists.specs.Fit.{list_ok_lem, names_ok_lem}
use Rattle.lists.specs.declared.numbers.Fault.{Fault}
use Rattle.lists.specs.declared.numbers.Fault.TheVariants as fault
use Rattle.fitness.specs.declared.codes.FitList.{FitList}
use Rattle.fitness.specs.declared.names.FitNames.{FitNames}

-- the list that is handed over, or the fault of one that is not fit
abbrev pub TakesList : List ℕ → List ℕ → Result FitList Fault → Type 0
TakesList run ls (Ok list) = (list.codes.bytes.now ≡ run) × (list.codes.sizes.now ≡ ls)
TakesList run ls (Err f) = (list_ok_lem run ls ≡ false) × (f ≡ fault.FalseList)

-- and so for the names of so many codes
abbrev pub TakesNames : ℕ → List ℕ → List ℕ → Result FitNames Fault → Type 0
TakesNames codes run ls (Ok fit) = (fit.names.bytes.now ≡ run) × (fit.names.sizes.now ≡ ls) × (length ls ≡ codes)
TakesNames codes run ls (Err f) = (names_ok_lem codes run ls ≡ false) × (f ≡ fault.FalseList)
