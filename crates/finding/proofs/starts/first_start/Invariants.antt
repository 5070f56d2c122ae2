-- `first_start`. The invariant: at the start i the first j bands are alike, m bands of the word turned end there, and no way
-- stands at a start before them, nor at one before the window's. The start goes on at each mismatch, so the loop ends.
use mathlib.Core.Path.{◌≡◌}
use Prim.Native.Nat.{◌+◌, ◌-◌, ◌≤◌}
use lib.ListN.{length}
use Rattle.words.specs.Turn.{turned}
use Rattle.windows.specs.Windows.{Windowed}
use Rattle.finding.proofs.Searching.{Seeking}
use Rattle.finding.proofs.starts.first_start.Given as goal

abbrev pub invariant-loop-j : goal.invariant-loop-j
invariant-loop-j l = (l.i ≡ l.initial.i) × (l.i + l.j ≤ length l.s) × Seeking turned l.c l.s l.from l.w.start l.i l.j l.m

abbrev pub decreases-loop-j : goal.decreases-loop-j
decreases-loop-j l = length l.c - l.j

abbrev pub invariant-starts : goal.invariant-starts
invariant-starts l =
    (l.i + l.j ≤ length l.s) × Seeking turned l.c l.s l.from l.w.start l.i l.j l.m × Windowed l.s (length l.c) l.w.start l.w.sum

abbrev pub decreases-starts : goal.decreases-starts
decreases-starts l = length l.s - l.i
