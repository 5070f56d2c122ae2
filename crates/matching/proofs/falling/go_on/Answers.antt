-- `go_on` falls back until the band follows, or nothing is left to fall back to.
use Rattle.std.proofs.Common.{sym, ◌∙◌, arith}
use mathlib.Core.Bool.{true≢false}
use Rattle.matching.proofs.Sizes.{form_size}
use Rattle.words.proofs.Falling.{falling_none, falling_more, falling_hit, falling_all}
use Rattle.matching.proofs.falling.go_on.Goals as goal

pub loop-m-init : goal.loop-m-init
loop-m-init c = falling_none (omega (arith, form_size c.args.b))

pub returns-then-k-eq0 : goal.returns-then-k-eq0
returns-then-k-eq0 c =
    falling_all c.loop-m.invariant c.if-k-eq0.true (λ f. true≢false (sym (c.follows.ensures.1 f) ∙ c.loop-m-test.true))

pub loop-m-preserved : goal.loop-m-preserved
loop-m-preserved c =
    let l = c.loop-m in
    falling_more l.invariant (λ f. true≢false (sym (c.follows.ensures.1 f) ∙ c.loop-m-test.true))
    (c.requires.1.each l.k (omega arith) l.invariant.below)

pub returns : goal.returns
returns c = falling_hit c.loop-m.invariant (c.follows.ensures.0 c.loop-m-test.false)
