-- The rows before code i are put, and those from it on still to come.
use Rattle.sheet_rows.specs.Sheets.{all_rows}
use Rattle.fields.proofs.Pieces.{Partly}
use Rattle.pages.proofs.RowByRow.{rest}
use Rattle.pages.proofs.page.put_rows.Given as goal

abbrev pub invariant-loop-i : goal.invariant-loop-i
invariant-loop-i g l = Partly g.S.Sink.kind l.initial.sink (all_rows l.rows) l.sink (rest l.rows l.i)
