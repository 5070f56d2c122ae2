-- `Joining::join_faces_at`. The invariant: the faces below `a` are passed.
use Rattle.faces.specs.Joining.{ComesTo}
use Rattle.faces.proofs.pass.Joining.join_faces_at.Given as goal

abbrev pub invariant-loop-a : goal.invariant-loop-a
invariant-loop-a l = ComesTo l.initial.self.sorted.now l.o l.a l.self
