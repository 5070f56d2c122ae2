-- `ribbons_read_orders` tells what read_orders answers.
use Rattle.ribbons_c.proofs.Calls.{tells, read_back}
use Rattle.ribbons_c.proofs.ribbons_read_orders.Goals as goal

pub returns : goal.returns
returns c = tells read_back c.read_orders.ensures c.into.ensures
