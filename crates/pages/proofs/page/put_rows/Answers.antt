-- `page::put_rows` meets its contract: each turn puts the next row behind those before it.
use Rattle.sheet_rows.specs.Sheets.{nth}
use Rattle.fields.proofs.Pieces.{room_for, and_then, all_done}
use Rattle.pages.proofs.RowByRow.{none_left, next}
use Rattle.pages.proofs.page.put_rows.Goals as goal

pub put_nth-requires-clause-room : goal.put_nth-requires-clause-room
put_nth-requires-clause-room g c =
    let r = c.args.rows.now in
    let i = c.loop-i.i in
    room_for g.S.Sink.laws c.loop-i.invariant (nth r i) _ (next r i c.loop-i-test.true)

pub loop-i-preserved : goal.loop-i-preserved
loop-i-preserved g c =
    let r = c.args.rows.now in
    let i = c.loop-i.i in
    and_then g.S.Sink.laws c.loop-i.invariant (nth r i) _ (next r i c.loop-i-test.true) c.put_nth.ensures

pub returns : goal.returns
returns g c = all_done g.S.Sink.laws c.loop-i.invariant (none_left c.args.rows.now c.loop-i.i c.loop-i-test.false)
