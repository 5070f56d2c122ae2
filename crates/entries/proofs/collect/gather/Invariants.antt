-- The loop of `gather` keeps `Going`: the words so far are filed, and the rows that are left give the answer. The measure is
-- what is left of the file.
use lib.ListN.{length}
use Rattle.grammar.specs.Orders.{read_orders_lem}
use Rattle.entries.proofs.Gathering.{Going}
use Rattle.entries.proofs.collect.gather.Given as goal

abbrev pub invariant-loop-rest : goal.invariant-loop-rest
invariant-loop-rest l = Going (read_orders_lem l.file) l.rest l.bands l.lengths l.names l.sizes l.codes l.code_end l.name_end

abbrev pub decreases-loop-rest : goal.decreases-loop-rest
decreases-loop-rest l = length l.rest
