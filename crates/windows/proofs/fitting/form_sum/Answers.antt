-- `form_sum`: the sum so far is that of the bands passed.
use Rattle.std.proofs.Common.{ap, ◌∙◌, arith}
use lib.Seq.{take_all}
use native.Mathlib.Numerals.{add-one}
use Rattle.lists.specs.Runs.{total}
use Rattle.lists.proofs.Runs.{total_more}
use Rattle.matching.specs.Forms.{bands_of}
use Rattle.matching.proofs.Sizes.{form_size}
use Rattle.windows.proofs.fitting.form_sum.Goals as goal

pub loop-i-preserved : goal.loop-i-preserved
loop-i-preserved c =
    let f = c.args.form in
    let m = total_more (bands_of f) c.loop-i.i (omega (arith, form_size f)) in
    let x = c.from-sum.ensures in
    (omega (arith, x), rw add-one (omega (arith, c.loop-i.invariant.1, x, c.band.ensures, m)))

pub returns : goal.returns
returns c =
    let f = c.args.form in
    c.loop-i.invariant.1 ∙ ap total (take_all c.loop-i.i (bands_of f) (omega (arith, form_size f)))
