-- `Parts::cut`. The loop's invariant: the codes so far, and those that the rest of the run still gives, are its words.
use Rattle.std.proofs.Common.{◌≡◌, ◌++◌}
use Rattle.lists.specs.Handed.{words_of}
use Rattle.parts.proofs.cuts.Parts.cut.Given as goal

abbrev pub invariant-loop-code : goal.invariant-loop-code
invariant-loop-code l = l.parts ++ words_of l.code-iterator ≡ words_of l.run
