-- `go_on`: of the longer beginnings that could be held none is followed by x. Each fall-back is shorter, so the loop ends.
use Rattle.matching.specs.Forms.{bands_of}
use Rattle.words.proofs.Falling.{Falling}
use Rattle.matching.proofs.falling.go_on.Given as goal

abbrev pub invariant-loop-m : goal.invariant-loop-m
invariant-loop-m l = Falling (bands_of l.b) l.m l.x l.k

abbrev pub decreases-loop-m : goal.decreases-loop-m
decreases-loop-m l = l.k
