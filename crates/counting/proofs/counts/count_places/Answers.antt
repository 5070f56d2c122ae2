-- Where the next band is taken the pass holds what it should, by counting_here; the rest follows from that.
use mathlib.Core.Path.{◌≡◌, refl, ap, ◌∙◌}
use mathlib.Core.Bool.{true}
use mathlib.Core.List.{List}
use Prim.Native.Nat.{ℕ, ◌≤◌, ◌<◌}
use native.Mathlib.Omega.{arith}
use lib.ListN.{length}
use Rattle.std.specs.Int.{from_bool}
use Rattle.words.specs.Turn as w
use Rattle.words.proofs.Ways.{way_size}
use Rattle.words.proofs.Counting.{count_is}
use Rattle.counting.proofs.Counting.{Counting, counting_short, counting_none, counting_in, counting_here}
use Rattle.counting.proofs.Counting.{counting_all, counting_more}
use Rattle.counting.proofs.counts.count_places.Goals as goal
use Rattle.counting.proofs.counts.count_places.Goals.{After-moved-at}

as_long : (c : List ℕ) → length (w.turned c) ≡ length c
as_long c = way_size true c

here : (c : After-moved-at) →
    let m = c.moved-at.result in
    (c.loop-pass.pass.end ≤ m.end) × (m.end < length c.args.s.now)
    × Counting w.turned c.args.c.now c.args.s.now c.next_fit-w.result.start m.end m.given m.turned c.loop-pass.count
here c =
    let sums = c.sums_of-sums.ensures in
    counting_here (as_long c.args.c.now) c.requires.0 c.loop-pass.invariant.1 c.loop-pass-test.true c.max.ensures sums.0 sums.1
    c.next_fit-w.ensures c.moved-at.ensures

held : (c : After-moved-at) →
    let n = length c.args.c.now in
    let m = c.moved-at.result in
    (m.given ≤ n) × (m.turned ≤ n)
held c =
    let i = counting_in (as_long c.args.c.now) c.requires.0 (here c).2 in
    (i.0, i.1)

pub returns-then-s-n : goal.returns-then-s-n
returns-then-s-n c = counting_short w.turned c.args.c.now c.args.s.now (as_long c.args.c.now) c.if-s-n.true

pub loop-pass-init : goal.loop-pass-init
loop-pass-init c =
    let q = c.window_at-w.ensures in
    (omega arith, rw q.0 (counting_none (as_long c.args.c.now) c.requires.0), q.1)

pub overflow_sub-pass : goal.overflow_sub-pass
overflow_sub-pass c =
    let q = counting_in (as_long c.args.c.now) c.requires.0 c.loop-pass.invariant.1 in
    omega (arith, q.2, q.3)

pub bounds-s-at : goal.bounds-s-at
bounds-s-at c = (here (goal.at.bounds-s-at c).After-moved-at).1

pub overflow_add-pass : goal.overflow_add-pass
overflow_add-pass c = omega (arith, (here (goal.at.overflow_add-pass c).After-moved-at).1)

pub go_on-requires : goal.go_on-requires
go_on-requires c = rw (c.of-given.ensures, c.given.ensures) (held (goal.at.go_on-requires c).After-moved-at).0

pub go_on-requires-in-loop-pass : goal.go_on-requires-in-loop-pass
go_on-requires-in-loop-pass c =
    rw (c.of-turned.ensures, c.turned.ensures, as_long) (held (goal.at.go_on-requires-in-loop-pass c).After-moved-at).1

pub loop-pass-smaller : goal.loop-pass-smaller
loop-pass-smaller c =
    let h = here (goal.at.loop-pass-smaller c).After-moved-at in
    omega (arith, h.0, h.1)

pub loop-pass-preserved : goal.loop-pass-preserved
loop-pass-preserved c =
    let h = here (goal.at.loop-pass-preserved c).After-moved-at in
    let given = rw (c.of-given.ensures, c.given.ensures) at c.go_on.ensures in
    let turned = rw (c.of-turned.ensures, c.turned.ensures) at c.go_on-in-loop-pass.ensures in
    let ends = c.from-once.ensures ∙ ap from_bool c.is_whole.ensures in
    let m = counting_more (as_long c.args.c.now) c.requires.0 h.2 h.1 refl given turned ends in
    (omega (arith, h.1), m, c.next_fit-w.ensures.0)

pub returns : goal.returns
returns c = count_is (counting_all (as_long c.args.c.now) c.requires.0 c.loop-pass.invariant.1 c.loop-pass-test.false)
