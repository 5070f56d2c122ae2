-- `quoting::put_doubled` meets its contract: a byte is put behind those before it.
use Rattle.std.proofs.Common.{[], ◌∷◌}
use lib.ListN.{get_or}
use Rattle.grammar.specs.Quoting.{doubled_quotes}
use Rattle.fields.proofs.Quoted.{doubled_next}
use Rattle.fields.proofs.Pieces.{and_then}
use Rattle.fields.proofs.quoting.put_doubled.Goals as goal

pub loop-b-preserved : goal.loop-b-preserved
loop-b-preserved g c =
    let name = c.args.name.now in
    let i = c.loop-b.b-index in
    and_then g.S.Sink.laws c.loop-b.invariant (doubled_quotes (get_or name i 0 ∷ [])) _ (doubled_next name i c.loop-b-test.true)
    c.put_byte.ensures
