-- `mark_all`: the items so far hold their marks.
use Rattle.std.proofs.Common.{◌≡◌, ℕ, ◌<◌, slice_index_or}
use Rattle.outcomes.proofs.lent.mark_all.Given as goal

abbrev pub invariant-loop-i : goal.invariant-loop-i
invariant-loop-i g l = (d : g.row.T.Denot) (k : ℕ) → k < l.i → slice_index_or l.buffer k d ≡ g.T.Item.marked k
