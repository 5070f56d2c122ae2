-- What a writer is once a text is written at its mark.
use Rattle.std.specs.Prelude.{List, ◌++◌, ℕ, ◌+◌, length, take, drop}
use Rattle.std.specs.Borrow.{MutBor}
use denote.Ref.{at_last}
use Rattle.fields.specs.declared.writer.Writer.{Writer}
use Rattle.fields.specs.Sinks.{Kind}

-- a row once a text stands on it from a place on; what was before and behind it is kept
abbrev pub put_at : List ℕ → ℕ → List ℕ → List ℕ
put_at row at s = take at row ++ (s ++ drop (at + length s) row)

-- The same borrow with the text at the writer's mark, and the mark behind it. `at_last x l` is the reference x, its pointer
-- and its ghost name with it, at the list l.
abbrev pub filled : Writer → List ℕ → Writer
filled w s = record { out = at_last w.out (put_at w.out.now w.mark s); mark = w.mark + length s }

-- nothing is written yet
abbrev pub begun : MutBor (List ℕ) → Writer
begun out = record { out = out; mark = 0 }

abbrev pub writing : Kind Writer
writing = record { taken = λ w. w.mark; most = λ w. length w.out.now; filled = filled }
