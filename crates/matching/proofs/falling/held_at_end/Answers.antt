-- `held_at_end`: each band of a leads from the match before it to the next.
use Rattle.std.proofs.Common.{refl, arith, rules}
use Rattle.matching.proofs.Sizes.{form_size}
use Rattle.matching.proofs.Passing.{passed_none, passed_held, passed_row, passed_next, passed_more, follows_from}
use Rattle.matching.proofs.falling.held_at_end.Goals as goal

pub loop-i-init : goal.loop-i-init
loop-i-init c = (refl, passed_none _ _ _ (search rules) refl)

pub go_on-m-requires : goal.go_on-m-requires
go_on-m-requires c =
    let x = c.args in
    (omega (arith, form_size x.b, passed_held c.loop-i.invariant.1), passed_row c.loop-i.invariant.1)

pub fill_to-filled-requires : goal.fill_to-filled-requires
fill_to-filled-requires c =
    let x = c.args in
    let h = c.loop-i.invariant.1 in
    let v = c.band in
    let f = follows_from x.a.turned x.a.word.now c.loop-i.i v.result (omega arith) v.ensures in
    let n = passed_next h f c.go_on-m.ensures in
    (omega (arith, form_size x.b, n.1), omega (arith, n.0), n.2)

pub loop-i-preserved : goal.loop-i-preserved
loop-i-preserved c =
    let x = c.args in
    let h = c.loop-i.invariant.1 in
    let v = c.band in
    let f = follows_from x.a.turned x.a.word.now c.loop-i.i v.result (omega arith) v.ensures in
    (search rules, passed_more h f c.go_on-m.ensures c.fill_to-filled.ensures)
