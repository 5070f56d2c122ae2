-- `overlap` tries the lengths that are too long for the pass from the longest down. Then the pass finds the longest of those
-- left.
use Rattle.std.proofs.Common.{sym, ◌∙◌, arith}
use Rattle.matching.proofs.Sizes.{form_size}
use Rattle.matching.proofs.Trying.{tried_none, tried_hit, tried_miss, tried_last}
use Rattle.matching.proofs.endings.overlap.Goals as goal

pub loop-k-init : goal.loop-k-init
loop-k-init c =
    let x = c.args in
    tried_none _ _ _ (omega (arith, form_size x.a, form_size x.b))

pub returns-then-begins : goal.returns-then-begins
returns-then-begins c =
    tried_hit _ _ _ _ _ (omega arith) (omega arith) c.loop-k.invariant c.last.ensures.bands (sym c.begins.ensures ∙ c.if-begins.true)

pub loop-k-preserved : goal.loop-k-preserved
loop-k-preserved c =
    tried_miss _ _ _ _ _ (omega arith) (omega arith) c.loop-k.invariant c.last.ensures.bands (sym c.begins.ensures ∙ c.if-begins.false)

pub returns : goal.returns
returns c =
    let a = c.args.a in
    let l = c.last-2.ensures in
    tried_last _ _ _ _ _ c.loop-k.invariant (omega arith) (omega (arith, form_size a)) (rw (l.long, l.bands) at c.held_at_end.ensures)
