-- `gather` meets its contract: the heading and each row are a refusal, or one more entry is gathered.
use mathlib.Core.Path.{◌≡◌, ◌∙◌}
use Prim.Native.Nat.{◌+◌}
use native.Mathlib.Omega.{arith}
use Rattle.std.proofs.Common.{rules}
use Rattle.std.proofs.lemmas.Result.{err_from_is_err_and}
use Rattle.lists.proofs.Runs.{to_end}
use Rattle.entries.proofs.Mapped.{ok_before, err_before}
use Rattle.entries.proofs.Filing.{filed_run}
use Rattle.grammar.specs.Orders.{head_fault_lem}
use Rattle.entries.proofs.Gathering.{checked, checked_entry, bad_heading, begins, bad_entry, small, goes_on}
use Rattle.entries.proofs.collect.gather.Goals as goal

pub loop-rest-init : goal.loop-rest-init
loop-rest-init c =
    let p = c.requires in
    let h = c.check_row in
    let e = ok_before _ h.result c.map_err.ensures.cases c.in_ok-head.was in
    rw to_end (begins p.1 p.0 (omega (arith, h.auto.names, c.told-names)) (omega (arith, h.auto.bands, c.told-bands)) (omega (arith, c.told-lengths)) (omega (arith, c.told-sizes)) (rw e at (checked head_fault_lem h.ensures (λ n k r a. search rules))))

pub returns-in_err-head : goal.returns-in_err-head
returns-in_err-head c =
    let p = err_from_is_err_and c.from_residual.result c.from_residual.ensures.1 in
    let e = err_before _ c.check_row.result c.map_err.ensures.cases c.in_err-head.was in
    let q : c.in_err-head.field-0.0 ≡ record { fault = e.0; row = 1 } = search rules in
    let h = rw e.1 at (checked head_fault_lem c.check_row.ensures (λ n k r a. search rules)) in
    rw (p.1, p.2, q) (bad_heading _ c.requires.1 (λ z. omega (arith, c.requires.0)) h)

pub new-before-requires : goal.new-before-requires
new-before-requires c = rw c.split_at_mut-bytes.ensures.front (filed_run c.loop-rest.invariant.names_filed)

pub new-requires : goal.new-requires
new-requires c = filed_run c.loop-rest.invariant.codes_filed

pub new-requires-2 : goal.new-requires-2
new-requires-2 c = filed_run c.loop-rest.invariant.names_filed

pub returns-in_err-row : goal.returns-in_err-row
returns-in_err-row c =
    let p = err_from_is_err_and c.from_residual-in_err-row.result c.from_residual-in_err-row.ensures.1 in
    let e = err_before _ c.check_row-in-loop-rest.result c.map_err-in-loop-rest.ensures.cases c.in_err-row.was in
    let q : c.in_err-row.field-0.0 ≡ record { fault = e.0; row = 2 + c.loop-rest.codes } = search rules in
    let h = rw e.1 at (checked_entry c.loop-rest.invariant c.new-before.result c.check_row-in-loop-rest.ensures (λ n k r a. search rules) (c.new-before.ensures.0 ∙ c.split_at_mut-bytes.ensures.front) c.new-before.ensures.1) in
    rw (p.1, p.2, q) (bad_entry c.loop-rest.invariant c.loop-rest-test.ensures h)

pub bounds-lengths-codes : goal.bounds-lengths-codes
bounds-lengths-codes c =
    let e = ok_before _ c.check_row-in-loop-rest.result c.map_err-in-loop-rest.ensures.cases c.in_ok-row.was in
    let h = rw e at (checked_entry c.loop-rest.invariant c.new-before.result c.check_row-in-loop-rest.ensures (λ n k r a. search rules) (c.new-before.ensures.0 ∙ c.split_at_mut-bytes.ensures.front) c.new-before.ensures.1) in
    let g = c.loop-rest.invariant in
    omega (arith, small g c.loop-rest-test.ensures h (omega arith) (omega arith), g.lengths_room)

pub bounds-sizes-codes : goal.bounds-sizes-codes
bounds-sizes-codes c =
    let e = ok_before _ c.check_row-in-loop-rest.result c.map_err-in-loop-rest.ensures.cases c.in_ok-row.was in
    let h = rw e at (checked_entry c.loop-rest.invariant c.new-before.result c.check_row-in-loop-rest.ensures (λ n k r a. search rules) (c.new-before.ensures.0 ∙ c.split_at_mut-bytes.ensures.front) c.new-before.ensures.1) in
    let g = c.loop-rest.invariant in
    omega (arith, small g c.loop-rest-test.ensures h (omega arith) (omega arith), g.sizes_room)

pub loop-rest-preserved : goal.loop-rest-preserved
loop-rest-preserved c =
    let e = ok_before _ c.check_row-in-loop-rest.result c.map_err-in-loop-rest.ensures.cases c.in_ok-row.was in
    let l = c.split_at_mut-bytes.ensures in
    let k = c.split_at_mut-next_code.ensures in
    let h = rw e at (checked_entry c.loop-rest.invariant c.new-before.result c.check_row-in-loop-rest.ensures (λ n k r a. search rules) (c.new-before.ensures.0 ∙ l.front) c.new-before.ensures.1) in
    let g = c.loop-rest.invariant in
    rw to_end (goes_on g c.loop-rest-test.ensures h (omega arith) (omega arith) l.front k.front)
