-- `side` compares band by band. The invariant: the bands passed are alike, so what is left of the two words decides.
use Rattle.matching.specs.Forms.{bands_of}
use Rattle.sorting.proofs.Sides.{Siding}
use Rattle.sorting.proofs.compare.side.Given as goal

abbrev pub invariant-loop-i : goal.invariant-loop-i
invariant-loop-i l = Siding (bands_of l.c) (bands_of l.word) l.i
