-- `ribbons_write_sheet` tells what write_sheet answers.
use Rattle.ribbons_c.proofs.Calls.{tells, wrote_back}
use Rattle.ribbons_c.proofs.ribbons_write_sheet.Goals as goal

pub returns : goal.returns
returns c = tells wrote_back c.write_sheet.ensures c.into.ensures
