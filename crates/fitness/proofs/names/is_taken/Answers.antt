-- `is_taken` meets its contract: `any` goes over the words of the run.
use Rattle.std.proofs.Common.{refl, rules, tests, ◌∙◌}
use Rattle.std.proofs.lemmas.Iterator.Consumers.{YieldsList-from_first}
use Rattle.std.proofs.lemmas.Iterator.Search.{any_from_yields_List}
use Rattle.words.specs.Tests.{same}
use Rattle.lists.specs.Handed.{words_of}
use Rattle.fitness.proofs.Walks.{any_is}
use Rattle.fitness.proofs.names.is_taken.Goals as goal

pub returns : goal.returns
returns c =
    let words = words_of c.args.names in
    any_from_yields_List (same c.args.name.now) c.any.new.self _ c.any.result c.any.ensures.ran
    (YieldsList-from_first (λ x. x.now) words_of {s = c.args.names} words refl)
    (λ x b q k. search (rules, tests))
    ∙ any_is c.args.name.now words
