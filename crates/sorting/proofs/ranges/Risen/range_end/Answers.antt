-- `Risen::range_end`: the first face decides whether the range is empty; if not, what is behind it is searched.
use mathlib.Core.Path.{sym}
use native.Mathlib.Omega.{arith}
use Rattle.std.specs.declared.cmp.Ordering.TheVariants.{Equal}
use Rattle.sorting.proofs.Rising.{side_less, others_rise, narrow_none, narrow_down}
use Rattle.sorting.proofs.ranges.Risen.range_end.Goals as goal

pub returns-then-lt : goal.returns-then-lt
returns-then-lt c =
    let e = c.in-Some.ensures.cases.0 in
    let q = rw e at c.args.self.rising in
    let l = side_less Equal c.side.result (sym c.if-lt.ensures) in
    rw e (narrow_down q _ narrow_none (rw c.face.ensures.bands at c.side.ensures) (omega arith) (omega arith) (omega arith))

pub invariant_of-others : goal.invariant_of-others
invariant_of-others c = record { rising = others_rise (rw c.in-Some.ensures.cases.0 at c.args.self.rising) }
