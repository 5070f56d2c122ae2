-- `making::make_join` stores a join and its mirror.
use Rattle.std.proofs.Common.{add-one}
use Rattle.joining.proofs.Rows.{row_set}
use Rattle.joining.proofs.making.make_join.Goals as goal

pub returns : goal.returns
returns c = simp (row_set, add-one, c.mirror_of-turned.ensures.0, c.mirror_of.ensures.0)
