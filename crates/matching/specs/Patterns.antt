-- A pattern's row has the fall-backs from all beginnings of its form.
use Rattle.std.specs.Prelude.{length}
use Rattle.words.specs.Falling.{FallBacks}
use Rattle.matching.specs.Forms.{bands_of}
use Rattle.matching.specs.declared.patterns.Pattern.TheInside.{Inside}

abbrev pub FallsBack : Inside → Type 0
FallsBack p = FallBacks (bands_of p.form) p.falls (length (bands_of p.form))
