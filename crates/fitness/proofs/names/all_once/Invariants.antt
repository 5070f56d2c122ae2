-- What the loop of `all_once` keeps: the names are used once exactly if those not yet given are.
use Rattle.std.proofs.Common.{◌≡◌}
use Rattle.lists.specs.Handed.{words_of}
use Rattle.lists.specs.Fit.{all_once_lem}
use Rattle.fitness.proofs.names.all_once.Given as goal

abbrev pub invariant-loop-name : goal.invariant-loop-name
invariant-loop-name l = all_once_lem (words_of l.fn.names) ≡ all_once_lem (words_of l.names)
