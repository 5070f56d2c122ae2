-- `Parts::kept`. The loop's invariant: the codes below i are gone through.
use Rattle.parts.proofs.Sieving.{Sieved}
use Rattle.parts.proofs.cuts.Parts.kept.Given as goal

abbrev pub invariant-loop-i : goal.invariant-loop-i
invariant-loop-i l = Sieved l.self l.kept l.i
