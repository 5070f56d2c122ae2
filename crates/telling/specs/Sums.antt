-- The checksum over the trials' texts: after each number the checksum so far is multiplied, and the number and 1 are added, by a prime.
use Rattle.std.specs.Prelude.{List, ℕ, ◌+◌, ◌*◌, ◌%◌}
use Rattle.std.specs.List.{fold}

abbrev pub fed : ℕ → ℕ → ℕ
fed sum n = (sum * 16777619 + n + 1) % 4294967291

abbrev pub fed_all : ℕ → List ℕ → ℕ
fed_all sum ns = fold fed sum ns
