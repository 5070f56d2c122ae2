-- `ribbons_lay_ribbon` tells what lay_ribbon answers.
use Rattle.ribbons_c.proofs.Calls.{tells, laid_back}
use Rattle.ribbons_c.proofs.ribbons_lay_ribbon.Goals as goal

pub returns : goal.returns
returns c = tells laid_back c.lay_ribbon.ensures c.into.ensures
