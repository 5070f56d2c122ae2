-- `overlap`: none of the lengths tried agrees, those from k on.
use Rattle.std.proofs.Common.{◌-◌}
use Rattle.matching.specs.Forms.{bands_of}
use Rattle.matching.proofs.Trying.{Tried}
use Rattle.matching.proofs.endings.overlap.Given as goal

abbrev pub invariant-loop-k : goal.invariant-loop-k
invariant-loop-k l = Tried (bands_of l.a) (bands_of l.b) (l.k - 1)
