-- `Joining::run_pass`: at first no overlap is so large, and at the end no join is allowed any more.
use Rattle.std.proofs.Common.{◌≡◌, refl, arith}
use Rattle.joins.proofs.Passing.{row_end}
use Rattle.faces.proofs.Passing.{pass_begun}
use Rattle.faces.proofs.pass.Joining.run_pass.Goals as goal

pub loop-o-init : goal.loop-o-init
loop-o-init c = record { codes = refl; passed = pass_begun _ c.args.self.now.short c.requires }

pub returns : goal.returns
returns c =
    let z : c.loop-o.o ≡ 0 = omega arith in
    record { codes = c.loop-o.invariant.codes; laid = row_end c.loop-o.invariant.passed z }
