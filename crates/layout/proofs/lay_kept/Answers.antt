-- `lay_kept`: the order found is the one of joining, so its ribbon is that of the kept codes.
use Rattle.layout.proofs.Stages.{in_order}
use Rattle.layout.proofs.lay_kept.Goals as goal

pub invariant_of-order : goal.invariant_of-order
invariant_of-order c = record { in_order = in_order _ c.order_faces-count.ensures.order c.order_faces-count.ensures.few c.requires }
