-- `Order::measure`: face i adds its bands but those that it shares.
use Rattle.std.proofs.Common.{sym, ◌∙◌, arith}
use Rattle.std.proofs.lemmas.Grind.{common_steps}
use Rattle.parts.proofs.Faces.{face_size, form_short}
use Rattle.spelling.proofs.Steps.{skip_in, longer, saves}
use Rattle.spelling.proofs.writing.Order.measure.Goals as goal

pub overflow_sub-bands : goal.overflow_sub-bands
overflow_sub-bands c =
    let size = face_size c.face.result c.face.ensures.bands in
    let short = form_short _ c.args.self.now.in_order.short _ c.face.result c.face.ensures.bands in
    omega (arith, skip_in c.args.self.now.in_order c.loop-i-test.true, size)

pub overflow_add-saved : goal.overflow_add-saved
overflow_add-saved c =
    let size = face_size c.face.result c.face.ensures.bands in
    let short = form_short _ c.args.self.now.in_order.short _ c.face.result c.face.ensures.bands in
    omega (arith, skip_in c.args.self.now.in_order c.loop-i-test.true, size, c.args.self.now.in_order.few)

pub loop-i-preserved : goal.loop-i-preserved
loop-i-preserved c =
    let h = c.loop-i-test.true in
    let o = c.skip_at-o.ensures in
    let size = face_size c.face.result c.face.ensures.bands in
    let short = form_short _ c.args.self.now.in_order.short _ c.face.result c.face.ensures.bands in
    let l = c.loop-i in
    record {
      long = rw (c.len.ensures ∙ sym size, o, l.invariant.long) (longer c.args.self.now.in_order h);
      saves = rw (o, l.invariant.saves) (saves c.args.self.now.in_order h);
      small = (omega arith, omega (arith, skip_in c.args.self.now.in_order h, size));
      each = grind (arith, common_steps);
      as_long = grind (arith, common_steps);
      behind = grind (arith, common_steps);
    }
