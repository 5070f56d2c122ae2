-- What the search knows at each turn is carried on by the lemmas of Searching, as the code goes.
use mathlib.Core.Path.{◌≡◌, refl, ap}
use mathlib.Core.Bool.{true}
use Prim.Native.Nat.{ℕ}
use mathlib.Core.List.{List}
use lib.ListN.{length}
use native.Mathlib.Omega.{arith}
use Rattle.words.specs.Turn.{turned}
use Rattle.words.proofs.Ways.{way_size}
use Rattle.matching.proofs.Sizes.{form_size}
use Rattle.matching.specs.declared.forms.Form.{Form}
use Rattle.finding.proofs.Searching.{seeking_none, seeking_in, seeking_skip, seeking_jump, seeking_given}
use Rattle.finding.proofs.Searching.{seeking_turned, seeking_nowhere, seeking_more, seeking_next, seeking_fall}
use Rattle.finding.proofs.starts.first_start.Goals as goal
use Rattle.finding.proofs.starts.first_start.Goals.{then-i-j, else-i-j}

as_long : (c : List ℕ) → length (turned c) ≡ length c
as_long c = way_size true c

pub starts-init : goal.starts-init
starts-init c =
    let w = c.window_at-w.ensures in
    (omega (arith, c.requires.room), rw w.0 (seeking_none (as_long c.args.c.now) (omega (arith, c.requires.room))), w.1)

pub loop-j-init : goal.loop-j-init
loop-j-init c =
    let k = as_long c.args.c.now in
    let sums = c.sums_of-sums.ensures in
    let q = seeking_skip k c.starts.invariant.1 c.max.ensures sums.0 sums.1 c.next_fit-w.ensures.1 in
    let l = c.next_fit-w.ensures.0.within in
    elim c.if-i-j.branch [
      | then-i-j w ↦ (refl, omega (arith, l), rw (w.i-is, w.j-is, w.m-is) (seeking_jump k q (omega (arith, l)) w.if-i-j.true))
      | else-i-j w ↦ (refl, omega arith, rw (w.i-is, w.j-is, w.m-is) q)
    ]

pub go_on-m-requires : goal.go_on-m-requires
go_on-m-requires c =
    let size = ap (λ (f : Form). length f.word.now) c.turned.ensures in
    let m = (seeking_in (as_long c.args.c.now) c.loop-j.invariant.2).0 in
    omega (arith, ap length c.of-turned.ensures, form_size c.turned.result, size, m)

pub starts-preserved-then-j-eq0 : goal.starts-preserved-then-j-eq0
starts-preserved-then-j-eq0 c =
    let on = rw (c.of-turned.ensures, c.turned.ensures) at c.go_on-m.ensures in (
      omega arith,
      seeking_next (as_long c.args.c.now) c.loop-j.invariant.2 c.loop-j-test.true (omega arith) (omega arith) refl
          on c.if-j-eq0.true c.if-c-j.true,
      c.next_fit-w.ensures.0,
    )

pub fall_back-back-requires : goal.fall_back-back-requires
fall_back-back-requires c = (omega (arith, c.if-j-eq0.false), rw (c.of-given.ensures, c.given.ensures) (omega (arith, c.loop-j-test.true)))

pub starts-preserved : goal.starts-preserved
starts-preserved c =
    let g = rw (c.of-given.ensures, c.given.ensures) at c.fall_back-back.ensures in
    let q = seeking_fall (as_long c.args.c.now) c.loop-j.invariant.2 c.loop-j-test.true (omega arith) (omega arith) c.if-c-j.true g in
    (q.both.given.within, q, c.next_fit-w.ensures.0)

pub go_on-m-requires-in-loop-j : goal.go_on-m-requires-in-loop-j
go_on-m-requires-in-loop-j c =
    let size = ap (λ (f : Form). length f.word.now) c.turned.ensures in
    let m = (seeking_in (as_long c.args.c.now) c.loop-j.invariant.2).0 in
    omega (arith, ap length c.of-turned.ensures, form_size c.turned.result, size, m)

pub loop-j-preserved : goal.loop-j-preserved
loop-j-preserved c =
    let on = rw (c.of-turned.ensures, c.turned.ensures) at c.go_on-m-in-loop-j.ensures in (
      c.loop-j.invariant.0,
      omega arith,
      seeking_more (as_long c.args.c.now) c.loop-j.invariant.2 c.loop-j-test.true (omega arith) (omega arith) refl
          on c.if-c-j.false,
    )

pub returns-then-m-n : goal.returns-then-m-n
returns-then-m-n c =
    (omega arith, seeking_turned (as_long c.args.c.now) c.loop-j.invariant.2 c.loop-j-test.true c.if-m-n.true)

pub returns-then-end-s : goal.returns-then-end-s
returns-then-end-s c =
    seeking_nowhere (as_long c.args.c.now) c.loop-j.invariant.2 c.loop-j-test.true (omega arith) c.if-end-s.true

pub returns-after-loop-j : goal.returns-after-loop-j
returns-after-loop-j c =
    (omega arith, seeking_given (as_long c.args.c.now) c.loop-j.invariant.2 c.loop-j-test.false)
