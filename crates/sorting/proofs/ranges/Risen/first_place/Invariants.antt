-- `Risen::first_place` halves the places that are left. The invariant: those before `low` are before side `least`, those from `high`
-- on are not, since the sides of sorted faces rise.
use Rattle.std.proofs.Common.{◌-◌, length}
use Rattle.std.specs.Ordering.{ordering_index}
use Rattle.matching.specs.Forms.{bands_of}
use Rattle.sorting.specs.Sorted.{side_at, Narrowed}
use Rattle.sorting.proofs.ranges.Risen.first_place.Given as goal

abbrev pub invariant-loop-low : goal.invariant-loop-low
invariant-loop-low l =
    Narrowed (side_at l.self.parts.now l.self.faces.now (bands_of l.word)) (ordering_index l.least) (length l.self.faces.now) l.low l.high

abbrev pub decreases-loop-low : goal.decreases-loop-low
decreases-loop-low l = l.high - l.low
