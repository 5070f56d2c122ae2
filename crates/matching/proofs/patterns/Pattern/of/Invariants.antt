-- `of`: the row is filled band by band.
use Rattle.std.proofs.Common.{◌≡◌, length}
use Rattle.words.specs.Falling.{Filled}
use Rattle.matching.specs.Forms.{bands_of}
use Rattle.matching.proofs.patterns.Pattern.of.Given as goal

abbrev pub invariant-loop-n : goal.invariant-loop-n
invariant-loop-n l = (length l.falls ≡ 65) × Filled (bands_of l.form) l.falls l.n l.n
