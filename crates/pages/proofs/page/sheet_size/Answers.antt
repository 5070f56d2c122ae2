-- `page::sheet_size` meets its contract: a row is as long as told.
use Rattle.std.proofs.Common.{length, ap, arith}
use Rattle.pages.proofs.RowByRow.{none_left, next_long}
use Rattle.pages.proofs.page.sheet_size.Goals as goal

pub loop-code-preserved : goal.loop-code-preserved
loop-code-preserved c =
    let next = next_long c.args.rows.now c.loop-code.code c.loop-code-test.true in (
      omega (arith, c.size_from-row.ensures.size.1, c.loop-code.invariant.0),
      omega (arith, next, c.size_from-row.ensures.size.0, c.loop-code.invariant.1),
      c.size_from-row.ensures.next,
    )

pub returns : goal.returns
returns c = omega (arith, c.loop-code.invariant.1, ap length (none_left c.args.rows.now c.loop-code.code c.loop-code-test.false))
