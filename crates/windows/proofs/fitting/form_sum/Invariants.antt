-- `form_sum`: the sum so far is that of the bands passed.
use Rattle.std.proofs.Common.{◌≡◌, ◌*◌, ◌≤◌, take}
use Rattle.lists.specs.Runs.{total}
use Rattle.matching.specs.Forms.{bands_of}
use Rattle.windows.proofs.fitting.form_sum.Given as goal

abbrev pub invariant-loop-i : goal.invariant-loop-i
invariant-loop-i l = (l.sum ≤ 255 * l.i) × (l.sum ≡ total (take l.i (bands_of l.form)))
