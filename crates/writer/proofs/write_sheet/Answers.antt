-- `write_sheet`: a list and names that pass the tests are fit, so the ribbon is laid out, and the outcome is that of its
-- sheet; what the outcome means follows from it.
use Rattle.std.proofs.Common.{◌≡◌, true, false, length, rules}
use mathlib.Core.Bool.{◌&&◌}
use Rattle.std.proofs.lemmas.Result.{err_from_is_err_and}
use Rattle.lists.specs.Fit.{list_ok_lem, names_ok_lem}
use Rattle.layout.proofs.Calls.{never_refused, saved_is}
use Rattle.writer.proofs.Stages.{writes_false, writes_laid}
use Rattle.writer.proofs.write_sheet.Goals as goal

pub returns-in_err-list : goal.returns-in_err-list
returns-in_err-list c =
    let a = c.args in
    let p = err_from_is_err_and c.from_residual.result c.from_residual.ensures.1 in
    let e = c.in_err-list.ensures in
    writes_false a.bands.now a.lengths.now a.names.now a.sizes.now a.out.now (rw e.0) (rw (p.1, p.2, e.1))

pub returns-in_err-fit_names : goal.returns-in_err-fit_names
returns-in_err-fit_names c =
    let a = c.args in
    let p = err_from_is_err_and c.from_residual-in_err-fit_names.result c.from_residual-in_err-fit_names.ensures.1 in
    let taken = c.in_ok-list.ensures in
    let ok = rw (taken.0, taken.1) at c.in_ok-list.list.fit in
    let e = c.in_err-fit_names.ensures in
    let bad : (list_ok_lem a.bands.now a.lengths.now && names_ok_lem (length a.lengths.now) a.names.now a.sizes.now) ≡ false = cc in
    writes_false a.bands.now a.lengths.now a.names.now a.sizes.now a.out.now bad (rw (p.1, p.2, e.1))

pub returns-in_err-laid : goal.returns-in_err-laid
returns-in_err-laid c =
    let a = c.args in
    let taken = c.in_ok-list.ensures in
    let ok = rw (taken.0, taken.1) at c.in_ok-list.list.fit in
    absurd (never_refused a.bands.now a.lengths.now _ ok (search rules) c.in_err-laid.ensures)

pub returns : goal.returns
returns c =
    let a = c.args in
    let taken = c.in_ok-list.ensures in
    let named = c.in_ok-fit_names.ensures in
    let ok = rw (taken.0, taken.1) at c.in_ok-list.list.fit in
    let fit = c.in_ok-fit_names.fit_names.fit in
    let names-ok : names_ok_lem (length a.lengths.now) a.names.now a.sizes.now ≡ true = cc in
    writes_laid a.bands.now a.lengths.now a.names.now a.sizes.now a.out.now _ ok names-ok (saved_is c.in_ok-laid.ensures)
    (rw (taken.0, taken.1, named.0, named.1) at c.write_laid.ensures)
