-- `ends::end_from` stops where nothing comes after a face, and else goes on to the next one.
use Rattle.std.proofs.Common.{◌≡◌, ◌+◌, ◌-◌, ◌*◌, get_or, arith}
use Rattle.joins.proofs.Walks.{walk_stops, walk_goes}
use Rattle.joining.specs.Joins.{row_of}
use Rattle.joining.proofs.Rows.{row_at}
use Rattle.joining.proofs.ends.end_from.Goals as goal

pub returns-in_default : goal.returns-in_default
returns-in_default c = walk_stops c.loop-passed.invariant (row_at c.args.after.now c.loop-passed.at c.in_default.is)

pub loop-passed-preserved : goal.loop-passed-preserved
loop-passed-preserved c =
    let l = c.loop-passed in
    let e = row_at c.args.after.now l.at c.in-Some.is in
    let next : get_or (row_of c.args.after.now) l.at 0 - 1 ≡ c.in-Some.next = omega (arith, e) in
    let left : 2 * c.args.n - l._passed - 1 ≡ 2 * c.args.n - (l._passed + 1) = omega arith in
    rw (next, left) at (walk_goes l.invariant c.requires.0 (omega arith) (λ z. omega (arith, e, z)))
