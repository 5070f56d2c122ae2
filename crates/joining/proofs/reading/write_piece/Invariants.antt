-- `reading::write_piece`. The invariant: what is written and what is still to be read are the piece.
use Rattle.joins.proofs.Written.{Writing}
use Rattle.joining.specs.Joins.{row_of}
use Rattle.joining.proofs.reading.write_piece.Given as goal

abbrev pub invariant-loop-count : goal.invariant-loop-count
invariant-loop-count l = Writing l.n (row_of l.after) l.f l.initial.order l.order l.at l.count
