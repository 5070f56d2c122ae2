-- The bytes so far are put, and those behind them still to come.
use Rattle.std.proofs.Common.{drop}
use Rattle.grammar.specs.Quoting.{doubled_quotes}
use Rattle.fields.proofs.Pieces.{Partly}
use Rattle.fields.proofs.quoting.put_doubled.Given as goal

abbrev pub invariant-loop-b : goal.invariant-loop-b
invariant-loop-b g l = Partly g.S.Sink.kind l.initial.sink (doubled_quotes l.name) l.sink (doubled_quotes (drop l.b-index l.name))
