-- `check_only` asks for room for 128 records, which is enough for any list.
use Rattle.verdicts.proofs.Calls.{checks_alone}
use Rattle.verdicts.proofs.check_only.Goals as goal

pub returns : goal.returns
returns c = checks_alone c.check_places.ensures
