-- `showing::show_code` meets its contract: the place lies on the ribbon, and what is counted from it on is all.
use Rattle.std.proofs.Common.{arith}
use Rattle.sheet_rows.proofs.Shows.{count_few, lies, counted_behind}
use Rattle.sheet_rows.proofs.showing.show_code.Goals as goal

pub count_from-places-requires : goal.count_from-places-requires
count_from-places-requires c =
    let a = c.args in
    let r = c.requires in
    (r.some, r.few, omega (arith, lies a.code.now a.ribbon.now a.way r.place, c.start-start.ensures))

pub overflow_cast-shown : goal.overflow_cast-shown
overflow_cast-shown c =
    let few = count_few c.args.code.now c.args.ribbon.now c.requires.some c.start-start.result in
    record { fits = omega (arith, few, c.count_from-places.ensures, c.requires.short) }

pub returns : goal.returns
returns c = counted_behind c.args.code.now c.args.ribbon.now c.args.way c.requires.place c.start-start.ensures c.count_from-places.ensures
