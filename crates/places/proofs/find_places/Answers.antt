-- `find_places`: a code's record stands behind those of the codes before it.
use Rattle.std.proofs.Common.{sym, ap, ◌∙◌}
use Rattle.words.specs.Place.{found}
use Rattle.places.proofs.Finding.{finding_none, finding_next, finding_stops, finding_all, next_fits, starts_within, way_found}
use Rattle.places.proofs.find_places.Goals as goal

pub loop-i-init : goal.loop-i-init
loop-i-init c =
    let codes = c.args.list.codes in
    let e = c.enumerate-i-items.ensures in
    rw (c.into_iter-i-iterator.ensures.into_iter_gives, e.count, e.source)
    (finding_none codes.bytes.now codes.sizes.now c.args.ribbon.now _ c.blank-records.ensures)

pub find_place-requires : goal.find_place-requires
find_place-requires c =
    let n = next_fits c.loop-i.invariant c.in-Some.ensures.steps.0 c.args.list.fit in
    (n.1, n.2)

pub returns-in_default : goal.returns-in_default
returns-in_default c =
    let s = c.in-Some.ensures.steps in
    rw s.1 (finding_stops c.loop-i.invariant s.0 (sym (ap found c.in_default.ensures)))

pub record_of-requires : goal.record_of-requires
record_of-requires c =
    let s = c.in-Some.ensures.steps in
    let e = c.in-Some-find_place.ensures in
    let t = sym (ap found e) ∙ way_found c.in-Some-find_place.way in
    (rw e (starts_within _ c.args.ribbon.now c.requires t), rw s.1 (next_fits c.loop-i.invariant s.0 c.args.list.fit).0)

pub bounds-records-i : goal.bounds-records-i
bounds-records-i c =
    let s = c.in-Some.ensures.steps in
    rw s.1 (next_fits c.loop-i.invariant s.0 c.args.list.fit).0

pub loop-i-preserved : goal.loop-i-preserved
loop-i-preserved c =
    let s = c.in-Some.ensures.steps in
    let e = c.in-Some-find_place.ensures in
    let r = rw (e, s.1) at c.record_of.ensures in
    rw (s.1, s.2) (finding_next c.loop-i.invariant s.0 c.args.list.fit _ r)

pub returns : goal.returns
returns c = finding_all c.loop-i.invariant c.in-None.ensures.steps.0.0
