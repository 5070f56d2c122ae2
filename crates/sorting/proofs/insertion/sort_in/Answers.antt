-- `sort_in`: at the place found, all faces before are before f and none from there on is, so the faces stay sorted.
use Rattle.sorting.proofs.Rising.{narrowed_front, sorted_next}
use Rattle.sorting.proofs.insertion.sort_in.Goals as goal

pub returns : goal.returns
returns c =
    let w = narrowed_front _ _ _ c.requires.2.room (rw c.face.ensures.bands at c.first_place-p.ensures) in
    sorted_next c.requires.2 w c.insert.ensures c.requires.1
