-- `next_fit`: a start that does not fit is passed over, and the window gains a band and loses one.
use Rattle.std.proofs.Common.{◌≡◌, ◌+◌, true, false, arith}
use Rattle.windows.proofs.Adding.{adds_small, first_in, adds_next, skipped_more}
use Rattle.windows.proofs.fitting.next_fit.Goals as goal

pub overflow_sub-w : goal.overflow_sub-w
overflow_sub-w c = omega (arith, first_in c.loop-w.invariant.0 c.requires.0 c.loop-w-test.true)

pub overflow_add-w-in-loop-w-2 : goal.overflow_add-w-in-loop-w-2
overflow_add-w-in-loop-w-2 c =
    let small = adds_small c.loop-w.invariant.0 (λ i. omega (arith, c.type_inv.s i)) in
    omega (arith, small, c.type_inv.s (c.loop-w.w.start + c.args.n))

pub loop-w-preserved : goal.loop-w-preserved
loop-w-preserved c =
    let h = c.loop-w.invariant in
    let n = adds_next h.0 c.requires.0 c.loop-w-test.true in (
      rw (c.from.ensures, c.from-in-loop-w.ensures) n,
      skipped_more h.1 h.0 (λ p. let no : false ≡ true = c.if-fits.ensures.1 p in cc),
    )
