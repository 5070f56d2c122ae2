-- `rows::Row::size` meets its contract: a row is short where its name and its code are, so it can be counted.
use Rattle.std.proofs.Common.{◌≤◌, length, arith}
use Rattle.sheet_rows.specs.Sheets.{five_columns}
use Rattle.sheet_rows.proofs.RowParts.{row_short}
use Rattle.sheet_rows.proofs.rows.Row.size.Goals as goal
use Rattle.sheet_rows.proofs.rows.Row.size.Goals.{Start}

few : (c : Start) → length (five_columns c.args.self) ≤ 131200
few c = row_short c.args.self (omega (arith, c.well_formed)) (omega (arith, c.well_formed))

pub put-requires : goal.put-requires
put-requires c = omega (arith, few (goal.at.put-requires c).Start)

pub returns : goal.returns
returns c = let s = few (goal.at.returns c).Start in (omega (arith, c.put.ensures.taken_is), omega (arith, c.put.ensures.taken_is, s))
