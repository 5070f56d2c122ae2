-- `fill_to`: where the match is longer than ever before, the row gets the next fall-back, one band further along b than the
-- last.
use native.Mathlib.Omega.{arith}
use mathlib.Core.Path.{sym}
use Prim.Native.Nat.{◌<◌}
use lib.ListN.{length}
use Rattle.matching.specs.Forms.{bands_of}
use Rattle.matching.proofs.Sizes.{form_size}
use Rattle.words.proofs.FallBacks.{filled_more}
use Rattle.matching.proofs.falling.fill_to.Goals as goal

pub returns : goal.returns
returns c =
    let x = c.args in
    let l : x.n < length (bands_of x.b) = omega (arith, form_size x.b) in
    let h = c.requires.2 in
    filled_more h (omega (arith, h.known)) c.requires.1 (l, sym c.band.ensures) c.go_on.ensures
