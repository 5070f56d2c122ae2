-- A text that is put into a writer is written on its row, behind its mark.
use Rattle.std.proofs.Common.{◌≡◌, ℕ, ◌≤◌, List, length, ap, arith}
use Rattle.std.specs.Borrow.{MutBor}
use Rattle.words.specs.Written.{Written}
use Rattle.fields.specs.declared.writer.Writer.{Writer}
use Rattle.fields.specs.Sinks.{Fits, Puts}
use Rattle.fields.specs.Filled.{begun, writing}

module _ {w v : Writer} {s : List ℕ} (p : Puts writing w s v) where
  pub puts_written : Written w.out.now w.mark s v.out.now v.mark
  puts_written =
      record { after_is = ap (λ (x : Writer). x.out.now) p.after_is; end_is = ap (λ (x : Writer). x.mark) p.after_is }

-- From the beginning of a row on.
module _ {w : Writer} {row : MutBor (List ℕ)} (e : w ≡ begun row) where
  pub begun_fits : (s : List ℕ) → length s ≤ length row.now → Fits writing w s
  begun_fits s h = rw e (omega (arith, h))

  pub begun_written : {v : Writer} {s : List ℕ} → Puts writing w s v → Written row.now 0 s v.out.now v.mark
  begun_written {v} {s} p = rw e at (puts_written p)
