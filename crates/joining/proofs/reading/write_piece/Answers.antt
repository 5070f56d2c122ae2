-- `reading::write_piece` stops where nothing comes after a face, and else goes on to the next one.
use Rattle.std.proofs.Common.{◌≡◌, ◌-◌, get_or, arith}
use Rattle.joins.proofs.Written.{writing_stops, writing_goes}
use Rattle.joining.specs.Joins.{row_of}
use Rattle.joining.proofs.Rows.{row_at}
use Rattle.joining.proofs.reading.write_piece.Goals as goal

pub returns-in_default : goal.returns-in_default
returns-in_default c =
    let p = c.requires in
    writing_stops p.0 p.2 c.loop-count.invariant c.loop-count-test.true (row_at c.args.after.now c.loop-count.at c.in_default.is)

pub loop-count-preserved : goal.loop-count-preserved
loop-count-preserved c =
    let p = c.requires in
    let e = row_at c.args.after.now c.loop-count.at c.in-Some.is in
    let next : get_or (row_of c.args.after.now) c.loop-count.at 0 - 1 ≡ c.in-Some.next = omega (arith, e) in
    rw next at (writing_goes p.0 p.2 c.loop-count.invariant c.loop-count-test.true (λ z. omega (arith, e, z)))
