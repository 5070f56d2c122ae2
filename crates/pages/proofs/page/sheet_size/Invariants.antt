-- The length of the heading and the rows so far, and each row is short; the name of the next starts behind those before it.
use Rattle.std.proofs.Common.{◌≡◌, ◌+◌, ◌*◌, ◌≤◌, length, take}
use Rattle.lists.specs.Runs.{total}
use Rattle.sheet_rows.specs.Sheets.{sheet}
use Rattle.pages.proofs.RowByRow.{rest}
use Rattle.pages.proofs.page.sheet_size.Given as goal

abbrev pub invariant-loop-code : goal.invariant-loop-code
invariant-loop-code l =
    (l.size ≤ 29 + 131200 * l.code) × (l.size + length (rest l.rows l.code) ≡ length (sheet l.rows))
    × (l.from ≡ total (take l.code l.rows.names.sizes.now))
