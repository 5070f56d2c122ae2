-- `put_lengths` meets its contract: after i turns the buffer holds the first i lengths and, past them, what it had.
use Rattle.std.proofs.Common.{rules, arith}
use lib.Seq.{take_all}
use Rattle.lists.proofs.Runs.{over_next}
use Rattle.orders.proofs.handover.put_lengths.Goals as goal

pub loop-i-preserved : goal.loop-i-preserved
loop-i-preserved c =
    let l = c.loop-i in
    let a = c.args in
    (search rules, rw l.invariant.1 (over_next a.from.now a.to.now l.i 0 (search rules) (search rules)))

pub returns : goal.returns
returns c =
    let l = c.loop-i in
    rw (take_all l.i c.args.from.now (omega arith)) at l.invariant.1
