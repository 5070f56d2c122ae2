-- `showing::show_codes` meets its contract: the code of the turn is shown behind those before it.
use Rattle.std.proofs.Common.{refl}
use Rattle.sheet_rows.proofs.Shows.{showing_none, next_few, next_placed, showing_next, showing_all}
use Rattle.sheet_rows.proofs.showing.show_codes.Goals as goal

pub loop-i-init : goal.loop-i-init
loop-i-init c =
    let codes = c.args.list.codes in
    let e = c.enumerate-i-items.ensures in
    rw (c.into_iter-i-iterator.ensures.into_iter_gives, e.count, e.source)
    (showing_none codes.bytes.now codes.sizes.now c.args.ribbon.now _ refl)

pub bounds-records-i : goal.bounds-records-i
bounds-records-i c =
    let s = c.in-Some.ensures.steps in
    rw s.1 (next_few c.loop-i.invariant s.0 c.args.list.fit)

pub show_code-requires : goal.show_code-requires
show_code-requires c =
    let s = c.in-Some.ensures.steps in
    rw s.1 (next_placed c.loop-i.invariant s.0 c.args.list.fit c.requires)

pub bounds-shown-i : goal.bounds-shown-i
bounds-shown-i c =
    let s = c.in-Some.ensures.steps in
    rw s.1 (next_few c.loop-i.invariant s.0 c.args.list.fit)

pub loop-i-preserved : goal.loop-i-preserved
loop-i-preserved c =
    let s = c.in-Some.ensures.steps in
    rw (s.1, s.2) (showing_next c.loop-i.invariant s.0 c.args.list.fit c.show_code.ensures)

pub returns : goal.returns
returns c = showing_all c.loop-i.invariant c.in-None.ensures.steps.0.0
