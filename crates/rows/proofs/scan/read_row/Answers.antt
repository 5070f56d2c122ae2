-- What a turn of `read_row`'s loop leaves, by what the byte does.
use mathlib.Core.Path.{◌≡◌, ◌∙◌}
use Prim.Native.Nat.{◌+◌}
use Rattle.std.specs.Prelude.{slice_get}
use Rattle.std.proofs.Common.{arith}
use Rattle.rows.proofs.Scanning.{copied_at, Taking, comma_next, skipped, kept_name, kept_code, kept_nothing}
use Rattle.rows.proofs.scan.read_row.Goals as goal
use Rattle.rows.proofs.scan.read_row.Goals.{in-Comma, in-Keep+in-1, in-Keep+in-2, in-Keep+in_default, in-Skip}

pub loop-i-preserved : goal.loop-i-preserved
loop-i-preserved c =
    let l = c.loop-i in
    let next : c.copied.result ≡ slice_get c.args.here.now (l.i + 1) =
    c.copied.ensures ∙ copied_at _ _ _ c.get.ensures.lookup in
    let taking : Taking c.args.here.now l.names l.bands l.mode l.i l.row c.take_byte.result = record {
      scan = l.invariant;
      more = c.loop-i-test.true;
      takes = rw next at c.take_byte.ensures;
    } in
    elim c.match-take_byte.branch [
      | in-Comma w ↦ rw (w.names-is, w.bands-is, w.mode-is, w.row-is) (comma_next taking w.in-Comma.is)
      | in-Keep+in-1 w ↦
          rw (w.names-is, w.bands-is, w.mode-is, w.row-is, w.keep.ensures.put, w.keep.ensures.more)
          (kept_name taking w.in-Keep.is w.in-1.is (omega arith))
      | in-Keep+in-2 w ↦
          rw (w.names-is, w.bands-is, w.mode-is, w.row-is, w.keep-in-2.ensures.put, w.keep-in-2.ensures.more)
          (kept_code taking w.in-Keep.is w.in-2.is (omega arith))
      | in-Keep+in_default w ↦
          rw (w.names-is, w.bands-is, w.mode-is, w.row-is)
          (kept_nothing taking w.in-Keep.is (λ e. omega arith) (λ e. omega arith))
      | in-Skip w ↦ rw (w.names-is, w.bands-is, w.mode-is, w.row-is) (skipped taking w.in-Skip.is)
    ]
