-- `of`: a row of zeros has the fall-back from one band, and in the end those of the whole word.
use Rattle.std.proofs.Common.{refl, arith, rules}
use Rattle.words.proofs.FallBacks.{falls_one, falls_fewer}
use Rattle.matching.proofs.Sizes.{form_size}
use Rattle.matching.proofs.patterns.Pattern.of.Goals as goal

pub loop-n-init : goal.loop-n-init
loop-n-init c = (refl, record { first = search rules; known = search rules; row = falls_one _ _ (search rules) refl })

pub invariant_of-result : goal.invariant_of-result
invariant_of-result c =
    let f = c.args.form in
    falls_fewer c.loop-n.invariant.1.row (omega (arith, form_size f))
