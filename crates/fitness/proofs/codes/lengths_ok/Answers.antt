-- `lengths_ok` meets its contract: `all` answers as the test of the rules does.
use Rattle.std.proofs.Common.{refl, rules}
use Rattle.std.proofs.lemmas.List.Recursion.{and_is}
use Rattle.lists.specs.Fit.{all, between}
use Rattle.fitness.proofs.codes.lengths_ok.Goals as goal

pub returns : goal.returns
returns c = and_is (all (between 1 64)) (between 1 64) refl (λ _ _. refl) c.args.lengths.now 0 _ (search rules) (search rules)
