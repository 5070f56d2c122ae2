-- `write_str`: the bytes so far are in the checksum.
use Rattle.std.proofs.Common.{◌≡◌, take}
use Rattle.telling.specs.Sums.{fed_all}
use Rattle.telling.proofs.tally.TallyWrite.write_str.Given as goal

abbrev pub invariant-loop-b : goal.invariant-loop-b
invariant-loop-b g l = l.self.sum.sum ≡ fed_all l.initial.self.sum.sum (take l.b-index l.text)
