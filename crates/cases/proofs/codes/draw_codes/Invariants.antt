-- `draw_codes`: so many codes, each of which has at most 64 bands.
use Rattle.std.proofs.Common.{◌*◌, ◌≤◌, length, ◌≡◌}
use Rattle.cases.proofs.codes.draw_codes.Given as goal

abbrev pub invariant-loop : goal.invariant-loop
invariant-loop l = (length l.codes.sizes.items ≡ l.counter) × (length l.codes.bytes.items ≤ 64 * l.counter)
