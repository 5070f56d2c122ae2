-- `Sorted::of`: the faces below 2n are all faces.
use Rattle.std.proofs.Common.{◌≡◌, ◌*◌, length, arith}
use Rattle.sorting.proofs.Together.{all_sorted}
use Rattle.sorting.proofs.sorted.Sorted.of.Goals as goal

pub invariant_of-result : goal.invariant_of-result
invariant_of-result c =
    let e : c.loop-f.f ≡ 2 * length c.args.parts.now = omega arith in
    all_sorted (rw e at c.loop-f.invariant)
