-- `Parts::kept`: code i goes behind those that are kept, or it is dropped.
use Rattle.std.proofs.Common.{◌<◌, length, sym, ◌∙◌, arith}
use Rattle.parts.proofs.Cutting.{lent_at, lent_size}
use Rattle.parts.proofs.Sieving.{sieve_keep, sieve_drop}
use Rattle.parts.proofs.cuts.Parts.kept.Goals as goal
use Rattle.parts.proofs.cuts.Parts.kept.Goals.{then-not-is_dropped, else-not-is_dropped}

pub loop-i-preserved : goal.loop-i-preserved
loop-i-preserved c =
    let s = c.loop-i.invariant in
    let lent = c.codes-code-items.ensures.same in
    let here : c.loop-i.i < length c.args.self.now = omega (arith, lent_size _ lent) in
    elim c.if-not-is_dropped.branch [
      | then-not-is_dropped w ↦ rw (w.kept-is, w.push.ensures, lent_at _ c.loop-i.i lent)
          (sieve_keep _ s here (sym c.is_dropped.ensures ∙ w.if-not-is_dropped.true))
      | else-not-is_dropped w ↦ rw w.kept-is (sieve_drop _ s here (sym c.is_dropped.ensures ∙ w.if-not-is_dropped.false))
    ]
