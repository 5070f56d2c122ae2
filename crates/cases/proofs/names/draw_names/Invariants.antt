-- `draw_names`: so many names, each of which has at most 24 bytes.
use Rattle.std.proofs.Common.{◌≡◌, ◌*◌, ◌≤◌, length}
use Rattle.cases.proofs.names.draw_names.Given as goal

abbrev pub invariant-loop-i : goal.invariant-loop-i
invariant-loop-i l = (length l.names.sizes.items ≡ l.i) × (length l.names.bytes.items ≤ 24 * l.i)
