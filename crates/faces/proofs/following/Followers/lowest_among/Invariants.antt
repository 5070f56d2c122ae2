-- `Followers::lowest_among`. The invariant: `best` is the lowest of those passed.
use Rattle.joining.specs.Joins.{row_of}
use Rattle.faces.specs.Passing.{Lowest, Among, MayFollow}
use Rattle.faces.proofs.following.Followers.lowest_among.Given as goal

abbrev pub invariant-loop-b : goal.invariant-loop-b
invariant-loop-b l = Lowest (Among l.faces l.b-index (MayFollow (row_of l.self.after.now) l.self.head l.self.other)) l.best
