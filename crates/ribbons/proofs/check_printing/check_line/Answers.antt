-- `check_printing::check_line`: the line of the check's answer is written.
use Rattle.ribbons.proofs.CheckText.{check_written}
use Rattle.ribbons.proofs.check_printing.check_line.Goals as goal

pub returns : goal.returns
returns c =
    rw (← c.codes-fit.ensures.words) (check_written _ _ _ c.codes-fit.result.fit c.check_only.ensures c.write_line.ensures)
