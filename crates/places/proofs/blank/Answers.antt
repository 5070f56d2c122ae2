-- `blank`: a row of records of which none is set.
use mathlib.Core.Path.{refl}
use Rattle.places.specs.Calls.{blanks}
use Rattle.places.proofs.blank.Goals as goal

pub returns : goal.returns
unfolding blanks
returns c = refl
