-- `check_places`: the answer follows the tests, and the records that are due are those of the search.
use Rattle.std.proofs.Common.{ap, ◌∙◌, ℕ, length, w32, arith}
use Rattle.std.proofs.lemmas.Int.{to_z-of_z}
use Rattle.greedy.proofs.Room.{ribbon_at_most}
use Rattle.checking.specs.Answers.{less}
use Rattle.verdicts.specs.Calls.{answer_of}
use Rattle.verdicts.proofs.Calls.{not_faulty, refused_in_room, missing_in_room, short_in_room, held_in_room}
use Rattle.verdicts.proofs.check_places.Goals as goal

pub returns-in-Err : goal.returns-in-Err
returns-in-Err c =
    let e = c.without_records.ensures in
    refused_in_room _ _ _ _ c.in-Err.fault c.in-Err.ensures (ap answer_of e.0 ∙ rw c.into.ensures) e.1 e.2

pub returns-then-count-lengths : goal.returns-then-count-lengths
returns-then-count-lengths c =
    let t = c.in-Ok.ensures in
    let e = c.without_records-then-count-lengths.ensures in
    missing_in_room _ _ _ _ t.0 (rw (t.1, t.2) at c.find_places-sought.ensures) c.if-count-lengths.true (ap answer_of e.0) e.1 e.2

pub returns-then-room-count : goal.returns-then-room-count
returns-then-room-count c =
    let t = c.in-Ok.ensures in
    let e = c.without_records-then-room-count.ensures in
    short_in_room _ _ _ _ t.0 (rw (t.1, t.2) at c.find_places-sought.ensures) c.if-count-lengths.false c.if-room-count.true
    (ap answer_of e.0 ∙ rw c.into-then-room-count.ensures) e.1 e.2

pub difference-longer-requires : goal.difference-longer-requires
difference-longer-requires c =
    let a = c.args in
    let t = c.in-Ok.ensures in
    let n = not_faulty a.bands.now a.lengths.now a.ribbon.now t.0 in
    let list = c.in-Ok.list in
    let r = ribbon_at_most list.codes.bytes.now list.codes.sizes.now list.fit in
    (omega (arith, n.1, c.computed_length.ensures, r), omega (arith, n.1, c.computed_length.ensures, r))

pub returns : goal.returns
returns c =
    let t = c.in-Ok.ensures in
    held_in_room _ _ _ _ t.0 (rw (t.1, t.2) at c.find_places-sought.ensures) c.if-count-lengths.false c.if-room-count.false
    (to_z-of_z w32 _ (record { sfits = c.difference-longer.type_inv }) ∙ c.difference-longer.ensures
    ∙ ap (λ (n : ℕ). less (length c.args.ribbon.now) n) (rw (t.1, t.2) at c.computed_length.ensures))
