-- `sum_of` meets its contract: the sum is the total.
use Rattle.std.proofs.Common.{refl, arith}
use Rattle.std.proofs.lemmas.Grind.{common_steps}
use Rattle.std.proofs.lemmas.List.Recursion.{is_sum_by}
use Rattle.lists.specs.Runs.{total}
use Rattle.windows.proofs.fitting.sum_of.Goals as goal

pub returns : goal.returns
returns c = grind (arith, common_steps, is_sum_by total (λ x. x) refl (λ _ _. refl))
