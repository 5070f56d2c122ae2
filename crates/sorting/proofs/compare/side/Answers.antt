-- `side`: band i decides, or it is alike and the next is compared.
use native.Mathlib.Omega.{arith}
use mathlib.Core.Path.{sym}
use Rattle.words.proofs.Ways.{way_size}
use Rattle.sorting.proofs.Sides.{siding_end, siding_short, siding_decides, siding_same}
use Rattle.sorting.proofs.compare.side.Goals as goal

pub returns-then-len-i : goal.returns-then-len-i
returns-then-len-i c = sym (siding_short c.loop-i.invariant (simp way_size (omega arith)) (simp way_size (omega arith)))

pub returns-then-y-x : goal.returns-then-y-x
returns-then-y-x c =
    siding_decides c.loop-i.invariant (simp way_size (omega arith)) (simp way_size (omega arith))
    (rw (c.band-y.ensures, c.band-x.ensures) at c.cmp.ensures) (rw (c.band-y.ensures, c.band-x.ensures) at c.if-y-x.true)

pub loop-i-preserved : goal.loop-i-preserved
loop-i-preserved c =
    siding_same c.loop-i.invariant (simp way_size (omega arith)) (simp way_size (omega arith))
    (rw (c.band-y.ensures, c.band-x.ensures) at c.if-y-x.false)

pub returns : goal.returns
returns c = sym (siding_end c.loop-i.invariant (simp way_size (omega arith)))
