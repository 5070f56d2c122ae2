-- `Risen::first_place`: the side of the face in the middle decides for all on one side of it, since the sides of sorted faces rise.
use mathlib.Core.Path.{sym}
use native.Mathlib.Omega.{arith}
use Rattle.sorting.proofs.Rising.{side_less, side_not_less, narrow_up, narrow_down}
use Rattle.sorting.proofs.ranges.Risen.first_place.Goals as goal

pub loop-low-preserved-then-lt : goal.loop-low-preserved-then-lt
loop-low-preserved-then-lt c =
    let l = side_less c.side.result c.args.least (sym c.if-lt.ensures) in
    narrow_up c.args.self.rising _ c.loop-low.invariant (rw c.face.ensures.bands at c.side.ensures) (omega arith) (omega arith) l

pub loop-low-preserved : goal.loop-low-preserved
loop-low-preserved c =
    let l = side_not_less c.side.result c.args.least (sym c.if-lt.ensures) in
    narrow_down c.args.self.rising _ c.loop-low.invariant (rw c.face.ensures.bands at c.side.ensures) (omega arith) (omega arith) l
