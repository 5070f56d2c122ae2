-- `Joining::run_pass`. The invariant: no join is allowed any more whose overlap is not below o.
use Rattle.std.proofs.Common.{◌*◌, length}
use Rattle.faces.specs.Joining.{ComesTo}
use Rattle.faces.proofs.pass.Joining.run_pass.Given as goal

abbrev pub invariant-loop-o : goal.invariant-loop-o
invariant-loop-o l = ComesTo l.initial.self.sorted.now l.o (2 * length l.initial.self.sorted.now) l.self
