-- `ends::end_from`. The invariant: from where the walk stands, with the steps left, the definition comes to the end that it
-- comes to from f.
use Rattle.std.proofs.Common.{◌-◌, ◌*◌}
use Rattle.joins.proofs.Walks.{Walk}
use Rattle.joining.specs.Joins.{row_of}
use Rattle.joining.proofs.ends.end_from.Given as goal

abbrev pub invariant-loop-passed : goal.invariant-loop-passed
invariant-loop-passed l = Walk l.n (row_of l.after) l.f l.at (2 * l.n - l._passed)
