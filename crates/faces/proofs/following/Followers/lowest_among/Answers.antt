-- `Followers::lowest_among`: one face after another is passed.
use Rattle.std.proofs.Common.{◌≡◌, length, arith}
use Rattle.faces.proofs.Picking.{lowest_next}
use Rattle.faces.proofs.following.Followers.lowest_among.Goals as goal

pub loop-b-preserved : goal.loop-b-preserved
loop-b-preserved c = lowest_next _ _ _ _ c.loop-b.invariant c.lower-best.ensures

pub returns : goal.returns
returns c =
    let e : c.loop-b.b-index ≡ length c.args.faces.now = omega arith in
    rw e at c.loop-b.invariant
