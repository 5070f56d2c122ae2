-- `rows::Rows::row_from` meets its contract: the name starts where those before it end, so the row is the one of code i, and the
-- next name starts where its name ends.
use Rattle.std.proofs.Common.{sym, arith}
use Rattle.sheet_rows.proofs.RowParts.{nth_name, nth_columns, nth_next}
use Rattle.sheet_rows.proofs.rows.Rows.row_from.Goals as goal

pub overflow_add-to : goal.overflow_add-to
overflow_add-to c =
    let fits = nth_name c.args.self.now.there c.args.i c.requires.listed c.requires.start c.from.ensures in
    record { fits = omega (arith, fits, c.well_formed) }

pub slice_bounds-result-end : goal.slice_bounds-result-end
slice_bounds-result-end c = nth_name c.args.self.now.there c.args.i c.requires.listed c.requires.start c.from.ensures

pub returns-clause-row : goal.returns-clause-row
returns-clause-row c =
    sym
    (nth_columns c.args.self.now.there c.args.i c.requires.listed c.start-start.ensures c.from-2.ensures c.requires.start c.from.ensures)

pub returns-clause-next : goal.returns-clause-next
returns-clause-next c = nth_next c.args.self.now.there c.args.i c.requires.listed c.requires.start c.from.ensures
