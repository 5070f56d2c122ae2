-- `stands_way`: `any` goes over the starts and the end.
use Rattle.std.proofs.Common.{◌+◌, length, refl, rules, tests, ◌∙◌, arith}
use Rattle.std.proofs.lemmas.Iterator.{YieldsList-from_range}
use Rattle.std.proofs.lemmas.Iterator.Search.{any_from_yields_List}
use Rattle.matching.specs.Forms.{bands_of}
use Rattle.matching.proofs.Seeking.{begins_at, any_stands}
use Rattle.matching.proofs.starts.stands_way.Goals as goal

pub returns : goal.returns
returns c =
    let f = bands_of c.args.form in
    let s = c.args.s.now in
    any_from_yields_List (begins_at f s) c.any.new.self _ c.any.result c.any.ensures.ran
    (YieldsList-from_range 0 (length s + 1) (length s + 1) refl (omega arith))
    (λ x b q k. search (rules, tests))
    ∙ any_stands f s
