-- `push`: the sizes still add up to the bytes.
use Rattle.std.proofs.Common.{rules, ◌∷◌, [], length}
use Rattle.lists.proofs.Runs.{total-append}
use Rattle.cases.proofs.word_list.Words.push.Goals as goal

pub invariant_of-self : goal.invariant_of-self
invariant_of-self g c = record { whole = search (rules, total-append c.args.self.now.sizes.items (length c.args.word.now ∷ [])) }
