-- `pass::order_sorted`: the pass begins with no joins.
use Rattle.std.proofs.Common.{length, refl, arith}
use Rattle.words.specs.Turn.{turned}
use Rattle.joins.proofs.Order.{order_short}
use Rattle.joins.proofs.Following.{no_joins}
use Rattle.greedy.specs.Reading.{shared}
use Rattle.faces.proofs.pass.order_sorted.Goals as goal

pub run_pass-requires : goal.run_pass-requires
run_pass-requires c = no_joins refl (rw c.parts.ensures at c.len-n.ensures.few) (omega arith)

pub returns-clause-few : goal.returns-clause-few
returns-clause-few c =
    let few = rw c.parts.ensures at c.len-n.ensures.few in
    let read = rw (c.len-n.ensures.count, c.parts.ensures) at c.write_order.ensures in
    let wrote = read.wrote _ c.run_pass.ensures.laid.records in
    omega (arith, wrote.count, order_short (length c.args.sorted.now) (shared turned c.args.sorted.now), few)
