-- What each line says, in the words of the programs.
use Rattle.std.specs.Prelude.{List, ℕ}
use Rattle.checking.specs.Answers.{CheckAnswer, refused, missing_code, held}
use Rattle.programs.specs.Programs.{refused_line_lem, held_line_lem, missing_line_lem}

-- the line of an answer
abbrev pub line_of : CheckAnswer → List ℕ
line_of (refused r) = refused_line_lem r
line_of (missing_code k) = missing_line_lem k
line_of (held d) = held_line_lem d
