-- `count_places`. The invariant: the starts are counted from which the word has ended, and the matches of both ways are open;
-- up to the window's start no way stands that is not counted.
use Prim.Native.Nat.{◌-◌, ◌≤◌}
use lib.ListN.{length}
use Rattle.words.specs.Turn as w
use Rattle.windows.specs.Windows.{Windowed}
use Rattle.counting.proofs.Counting.{Counting}
use Rattle.counting.proofs.counts.count_places.Given as goal

abbrev pub invariant-loop-pass : goal.invariant-loop-pass
invariant-loop-pass l =
    (l.pass.end ≤ length l.s)
    × Counting w.turned l.c l.s l.w.start l.pass.end l.pass.given l.pass.turned l.count
    × Windowed l.s (length l.c) l.w.start l.w.sum

abbrev pub decreases-loop-pass : goal.decreases-loop-pass
decreases-loop-pass l = length l.s - l.pass.end
