-- `moved`: its returns are the cases of the rule.
use Rattle.counting.specs.Moves.{on, stays}
use Rattle.counting.proofs.counts.Pass.moved.Goals as goal

pub returns-then-self-start : goal.returns-then-self-start
returns-then-self-start c = on c.if-self-start.true

pub returns-else-self-start : goal.returns-else-self-start
returns-else-self-start c = stays c.if-self-start.false
