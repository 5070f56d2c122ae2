-- `all_named` meets its contract: `all` goes over the words of the run.
use Rattle.std.proofs.Common.{refl, rules, tests, ◌∙◌}
use Rattle.std.proofs.lemmas.Iterator.Consumers.{YieldsList-from_first}
use Rattle.std.proofs.lemmas.Iterator.Search.{all_from_yields_List}
use Rattle.lists.specs.Handed.{words_of}
use Rattle.lists.specs.Fit.{name_ok_lem}
use Rattle.fitness.proofs.Walks.{all_is}
use Rattle.fitness.proofs.names.all_named.Goals as goal

pub returns : goal.returns
returns c =
    let words = words_of c.args.names in
    all_from_yields_List name_ok_lem c.all.new.self _ c.all.result c.all.ensures.ran
    (YieldsList-from_first (λ x. x.now) words_of {s = c.args.names} words refl)
    (λ x b q k. search (rules, tests))
    ∙ all_is name_ok_lem words
