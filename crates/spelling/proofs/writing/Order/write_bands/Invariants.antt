-- `Order::write_bands`. The loop's invariant: the ribbon of the faces so far is written, and the next goes behind it.
use Rattle.std.proofs.Common.{◌≡◌, length, take}
use Rattle.words.specs.Turn.{turned}
use Rattle.lists.specs.Runs.{over}
use Rattle.greedy.specs.Reading.{read_piece}
use Rattle.spelling.proofs.writing.Order.write_bands.Given as goal

abbrev pub invariant-loop-f : goal.invariant-loop-f
invariant-loop-f l = record {
  behind : l.at ≡ length (read_piece turned l.self.parts.now (take (length l.yielded) l.self.faces.now));
  written : l.ribbon ≡ over (read_piece turned l.self.parts.now (take (length l.yielded) l.self.faces.now)) l.initial.ribbon;
}
