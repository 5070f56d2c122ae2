-- `all_bands` meets its contract: `all` answers as the test of the rules does.
use Rattle.std.proofs.Common.{refl, rules}
use Rattle.std.proofs.lemmas.List.Recursion.{and_is}
use Rattle.lists.specs.Fit.{all, is_band}
use Rattle.fitness.proofs.texts.all_bands.Goals as goal

pub returns : goal.returns
returns c = and_is (all is_band) is_band refl (λ _ _. refl) c.args.s.now 0 _ (search rules) (search rules)
