-- `Parts::is_dropped`: `any` goes over the numbers of all codes.
use Rattle.std.proofs.Common.{length, refl, rules, tests, ◌∙◌, arith}
use Rattle.std.proofs.lemmas.Iterator.{YieldsList-from_range}
use Rattle.std.proofs.lemmas.Iterator.Search.{any_from_yields_List}
use Rattle.words.specs.Turn.{turned}
use Rattle.words.specs.Stand.{some_way}
use Rattle.greedy.specs.Dropping.{held_by_lem}
use Rattle.parts.proofs.Sieving.{some_below_is}
use Rattle.parts.proofs.cuts.Parts.is_dropped.Goals as goal

pub returns : goal.returns
returns c =
    let p = held_by_lem (some_way turned) c.args.self.now c.args.i in
    any_from_yields_List p c.any.new.self _ c.any.result c.any.ensures.ran
    (YieldsList-from_range 0 c.len.result (length c.args.self.now) refl (omega arith))
    (λ x b q k. search (rules, tests))
    ∙ some_below_is p (length c.args.self.now)
