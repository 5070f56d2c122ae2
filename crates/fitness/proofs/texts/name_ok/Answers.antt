-- `name_ok` meets its contract: the length is in range, and `all` answers as the test of the rules does.
use Rattle.std.proofs.Common.{refl, rules, arith, length}
use Rattle.std.proofs.lemmas.List.Recursion.{and_is}
use borrow.Author.Tests.{le-leb}
use Rattle.lists.specs.Fit.{all, plain}
use Rattle.fitness.proofs.texts.name_ok.Goals as goal

pub returns-then-contains : goal.returns-then-contains
returns-then-contains c =
    let n = c.args.n.now in
    let some = le-leb 1 (length n) (grind arith) in
    let few = le-leb (length n) 24 (grind arith) in
    rw (some, few) (and_is (all plain) plain refl (λ _ _. refl) n 0 _ (search rules) (search rules))
