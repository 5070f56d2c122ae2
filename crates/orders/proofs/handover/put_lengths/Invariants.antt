-- `put_lengths` meets its contract: after i turns the buffer holds the first i lengths and, past them, what it had.
use Rattle.std.proofs.Common.{◌≡◌, length, take}
use Rattle.lists.specs.Runs.{over}
use Rattle.orders.proofs.handover.put_lengths.Given as goal

abbrev pub invariant-loop-i : goal.invariant-loop-i
invariant-loop-i l = (length l.to ≡ length l.initial.to) × (l.to ≡ over (take l.i l.from) l.initial.to)
