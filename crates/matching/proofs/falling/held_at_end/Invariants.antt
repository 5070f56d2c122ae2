-- `held_at_end`: the invariant is what a pass along a holds after i bands.
use mathlib.Core.Path.{◌≡◌}
use lib.ListN.{length}
use Rattle.matching.specs.Forms.{bands_of}
use Rattle.matching.proofs.Passing.{Passed}
use Rattle.matching.proofs.falling.held_at_end.Given as goal

abbrev pub invariant-loop-i : goal.invariant-loop-i
invariant-loop-i l = (length l.falls ≡ 65) × Passed (bands_of l.a) (bands_of l.b) l.falls l.filled l.m l.i
