-- `Joining::lowest_following`: a face that has no o bands shares none, and else those that begin with its last o bands are gone
-- through.
use Rattle.std.proofs.Common.{arith}
use Rattle.parts.proofs.Faces.{face_size}
use Rattle.faces.proofs.Ranges.{follows_none, follows_lowest}
use Rattle.faces.proofs.pass.Joining.lowest_following.Goals as goal

pub returns-then-len-o : goal.returns-then-len-o
returns-then-len-o c =
    let size = face_size c.face-face.result (rw c.parts.ensures at c.face-face.ensures.bands) in
    follows_none _ c.args.a c.args.o (omega arith)

pub returns : goal.returns
returns c =
    let face = rw c.parts.ensures at c.face-face.ensures.bands in
    let size = face_size c.face-face.result face in
    follows_lowest c.args.a c.args.o (omega arith) (rw (c.last.ensures.bands, face) at c.beginning_with.ensures) _ _
    c.mirror_of.ensures.0 _ c.lowest_among.ensures
