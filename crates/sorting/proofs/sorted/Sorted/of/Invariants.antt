-- `Sorted::of` puts in one face after another. The invariant: the faces below f are sorted.
use Rattle.sorting.specs.Sorted.{SortedBelow}
use Rattle.sorting.proofs.sorted.Sorted.of.Given as goal

abbrev pub invariant-loop-f : goal.invariant-loop-f
invariant-loop-f l = SortedBelow l.parts l.f l.faces
