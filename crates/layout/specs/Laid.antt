-- A ribbon's length and what it saves, as a call answers.
use Rattle.std.specs.Prelude.{ℕ}
use Rattle.spelling.specs.declared.writing.Sums.{Sums}

abbrev pub Laid : Type 0
Laid = Sums ℕ
