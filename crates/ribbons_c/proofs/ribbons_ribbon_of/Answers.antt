-- `ribbons_ribbon_of` answers with the length of what ribbon_of gives.
use Rattle.ribbons_c.proofs.Calls.{tells_ribbon}
use Rattle.ribbons_c.proofs.ribbons_ribbon_of.Goals as goal

pub returns : goal.returns
returns c = tells_ribbon c.args.file.now c.ribbon_of-ribbon.ensures
