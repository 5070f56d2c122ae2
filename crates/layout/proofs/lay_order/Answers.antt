-- `lay_order`: by its sums the ribbon is too long for the buffer, or it is written.
use Rattle.layout.proofs.Stages.{gives_short, gives_ribbon}
use Rattle.layout.proofs.lay_order.Goals as goal

pub returns-then-ribbon-sums : goal.returns-then-ribbon-sums
returns-then-ribbon-sums c = gives_short c.measure-sums.ensures.sums _ c.if-ribbon-sums.true (rw c.into.ensures)

pub returns : goal.returns
returns c = gives_ribbon c.measure-sums.ensures.sums _ c.if-ribbon-sums.false c.write_bands.ensures
