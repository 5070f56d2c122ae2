-- `quoting::needs_quotes` meets its contract: some byte is a comma or a quote.
use Rattle.std.specs.Prelude.{◌==◌, ◌||◌}
use Rattle.std.proofs.Common.{sym, ◌∙◌, rules, tests}
use Rattle.std.proofs.lemmas.Iterator.{YieldsList-from_slice}
use Rattle.std.proofs.lemmas.Iterator.Search.{any_from_yields_List}
use Rattle.grammar.specs.Files.{quote, comma}
use Rattle.fields.proofs.Quoted.{marked_some}
use Rattle.fields.proofs.quoting.needs_quotes.Goals as goal

pub returns : goal.returns
returns c =
    let name = c.args.name.now in
    let bytes = YieldsList-from_slice name c.iter.ensures.rest in
    any_from_yields_List (λ b. (b == comma) || (b == quote)) _ _ _ c.any.ensures.ran bytes (λ x b q k. search (rules, tests))
    ∙ sym (marked_some name)
