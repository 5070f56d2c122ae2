-- `go_on`: the row suffices for every match.
use Rattle.std.proofs.Common.{◌≤◌, length, arith}
use Rattle.words.proofs.FallBacks.{falls_fewer}
use Rattle.matching.proofs.Sizes.{form_size}
use Rattle.matching.specs.Forms.{bands_of}
use Rattle.matching.proofs.patterns.Pattern.go_on.Goals as goal

pub go_on-requires : goal.go_on-requires
go_on-requires c =
    let p = c.self.inside in
    let m : c.args.m ≤ length (bands_of p.form) = rw c.self.view_is c.requires in
    (omega (arith, form_size p.form), falls_fewer c.self.invariant m)
