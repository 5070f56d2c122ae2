-- The codes passed are shown, and those left are still to come.
use Rattle.lists.specs.Handed.{words_of}
use Rattle.sheet_rows.proofs.Shows.{Showing}
use Rattle.sheet_rows.proofs.showing.show_codes.Given as goal

abbrev pub invariant-loop-i : goal.invariant-loop-i
invariant-loop-i l = Showing l.list.codes.bytes.now l.list.codes.sizes.now l.ribbon l.shown l.i-iterator.count (words_of l.i-iterator.iter)
