-- `put_way`: the bands passed are on the row.
use Rattle.std.proofs.Common.{◌≡◌, ℕ, ◌+◌, ◌<◌, get_or}
use Rattle.matching.specs.Forms.{bands_of}
use Rattle.matching.proofs.writing.put_way.Given as goal

abbrev pub invariant-loop-j : goal.invariant-loop-j
invariant-loop-j l = (k : ℕ) → k < l.j → get_or l.band-items k 0 ≡ get_or (bands_of l.form) (l.skip + k) 0
