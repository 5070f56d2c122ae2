-- `Order::measure`. The loop's invariant: length and saving of the ribbon of the first i faces, at most 64 a face each, and
-- what each of them shares; what is behind that stays.
use Rattle.std.proofs.Common.{◌≡◌, ℕ, ◌*◌, ◌≤◌, ◌<◌, length, take, get_or}
use Rattle.words.specs.Turn.{turned}
use Rattle.greedy.specs.Reading.{skip_at_lem, read_piece, saved_along}
use Rattle.spelling.proofs.writing.Order.measure.Given as goal

abbrev pub invariant-loop-i : goal.invariant-loop-i
invariant-loop-i l = record {
  long : l.bands ≡ length (read_piece turned l.self.parts.now (take l.i l.self.faces.now));
  saves : l.saved ≡ saved_along turned l.self.parts.now (take l.i l.self.faces.now);
  small : (l.bands ≤ 64 * l.i) × (l.saved ≤ 64 * l.i);
  each : (k : ℕ) → k < l.i → get_or l.skips k 0 ≡ skip_at_lem turned l.self.parts.now l.self.faces.now k;
  as_long : length l.skips ≡ length l.initial.skips;
  behind : (k : ℕ) → l.i ≤ k → get_or l.skips k 0 ≡ get_or l.initial.skips k 0;
}
