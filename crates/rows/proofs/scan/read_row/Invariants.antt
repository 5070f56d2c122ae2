-- What the loop of `read_row` keeps: `Scanning`, where the rest of the scan gives the row and each buffer has what has been
-- read of its field.
use Rattle.rows.proofs.Scanning.{Scanning}
use Rattle.rows.proofs.scan.read_row.Given as goal

abbrev pub invariant-loop-i : goal.invariant-loop-i
invariant-loop-i l = Scanning l.here l.names l.bands l.mode l.i l.row
