-- `next_fit`: the window is that of its start, and no start passed over fits.
use Rattle.std.proofs.Common.{◌-◌, length}
use Rattle.windows.specs.Windows.{Windowed, Skipped}
use Rattle.windows.proofs.fitting.next_fit.Given as goal

abbrev pub invariant-loop-w : goal.invariant-loop-w
invariant-loop-w l = Windowed l.s l.n l.w.start l.w.sum × Skipped l.s l.n l.sums.given l.sums.turned l.initial.w.start l.least l.w.start

abbrev pub decreases-loop-w : goal.decreases-loop-w
decreases-loop-w l = length l.s - l.w.start
