-- `lay_ribbon`: the outcome of a fit list is that of its codes that are kept; what the outcome means follows from it.
use mathlib.Core.Path.{refl}
use Rattle.std.proofs.lemmas.Result.{err_from_is_err_and}
use Rattle.lists.specs.Runs.{codes_in}
use Rattle.layout.proofs.Calls.{lays_ribbon}
use Rattle.words.proofs.Deciding.{holds}
use Rattle.lists.proofs.Rules.{is_fit_list}
use Rattle.parts.proofs.Cutting.{fit_short}
use Rattle.parts.proofs.Sieving.{kept_short}
use Rattle.layout.proofs.Stages.{gives_false, gives_kept}
use Rattle.layout.proofs.lay_ribbon.Goals as goal

pub returns-in_err-list : goal.returns-in_err-list
returns-in_err-list c =
    let a = c.args in
    let f = c.in_err-list.ensures in
    let p = err_from_is_err_and c.from_residual.result c.from_residual.ensures.1 in
    lays_ribbon a.bands.now a.lengths.now a.ribbon.now
    (gives_false a.bands.now a.lengths.now a.ribbon.now f.0 (rw (p.1, p.2, f.1) refl))

pub lay_kept-requires : goal.lay_kept-requires
lay_kept-requires c =
    let list = c.in_ok-list.list in
    let run = list.codes.bytes.now in
    let ls = list.codes.sizes.now in
    rw c.kept_of.ensures (kept_short (codes_in run ls) (fit_short (holds (is_fit_list run ls) list.fit)))

pub returns : goal.returns
returns c =
    let a = c.args in
    let list = c.in_ok-list.list in
    let is = c.in_ok-list.ensures in
    lays_ribbon a.bands.now a.lengths.now a.ribbon.now
    (gives_kept a.bands.now a.lengths.now a.ribbon.now (rw (is.0, is.1) at list.fit)
    (rw (c.kept_of.ensures, is.0, is.1) at c.lay_kept.ensures))
