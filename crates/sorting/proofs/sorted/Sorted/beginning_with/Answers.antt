-- `Sorted::beginning_with`: the places on side 1 have the faces that begin with the word, and all of these.
use Rattle.sorting.proofs.Together.{tail_is, rising_all, rising_behind, begin}
use Rattle.sorting.proofs.sorted.Sorted.beginning_with.Goals as goal

pub invariant_of-from : goal.invariant_of-from
invariant_of-from c =
    record { rising = rw (c.len.ensures.count, tail_is) (rising_behind _ _ (rising_all _ c.self.invariant)) }

pub returns : goal.returns
returns c =
    let n = c.len.ensures.count in
    rw (← c.self.view_is, n, tail_is)
    (begin _ _ _ _ _ c.self.invariant (rw n at c.first_place.ensures) (rw (n, tail_is) at c.range_end.ensures))
