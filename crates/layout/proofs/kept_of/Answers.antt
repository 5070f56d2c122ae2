-- `kept_of`: the codes of a fit list are cut from its run, and they are few.
use Rattle.std.proofs.Common.{ap, ◌∙◌}
use Rattle.words.specs.Turn.{turned}
use Rattle.words.proofs.Deciding.{holds}
use Rattle.lists.proofs.Rules.{is_fit_list}
use Rattle.greedy.specs.Dropping.{kept}
use Rattle.parts.proofs.Cutting.{cut_parts, fit_few}
use Rattle.layout.proofs.kept_of.Goals as goal

pub cut-requires : goal.cut-requires
cut-requires c = fit_few (holds (is_fit_list _ _) c.args.list.fit)

pub returns : goal.returns
returns c = c.kept.ensures ∙ ap (kept turned) (cut_parts c.args.list.codes c.cut.ensures)
