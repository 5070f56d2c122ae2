-- `find_places`: the codes passed have places, and those left are still to come.
use Rattle.lists.specs.Handed.{words_of}
use Rattle.places.proofs.Finding.{Finding}
use Rattle.places.proofs.find_places.Given as goal

abbrev pub invariant-loop-i : goal.invariant-loop-i
invariant-loop-i l = Finding l.list.codes.bytes.now l.list.codes.sizes.now l.ribbon l.records l.i-iterator.count (words_of l.i-iterator.iter)
