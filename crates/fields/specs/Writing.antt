-- The laws of a writer: texts one after the other are one text, no text changes nothing, and the slice stays as long as it was.
use mathlib.Core.Path.{◌≡◌, refl}
use mathlib.Core.List.{List, [], ◌++◌}
use Prim.Native.Nat.{ℕ, ◌+◌, ◌≤◌}
use native.Mathlib.Omega.{arith}
use lib.ListN.{length, take-append-drop}
use denote.Ref.{at_last}
use Rattle.words.specs.Written.{Written}
use Rattle.words.proofs.Written.{both_written}
use Rattle.fields.specs.declared.writer.Writer.{Writer}
use Rattle.fields.specs.Sinks.{SinkLaws}
use Rattle.fields.specs.Filled.{put_at, filled, writing}

pub put_written : (row : List ℕ) (at : ℕ) (s : List ℕ) → Written row at s (put_at row at s) (at + length s)
put_written row at s = record { after_is = refl; end_is = refl }

-- no text
pub filled_none : (w : Writer) → filled w [] ≡ w
filled_none w =
    let e : w.mark + 0 ≡ w.mark = omega arith in
    let same : put_at w.out.now w.mark [] ≡ w.out.now = rw e (take-append-drop w.mark w.out.now) in
    λ i. record { out = at_last w.out (same i); mark = e i }

-- a text behind another
pub filled_twice : (w : Writer) (s t : List ℕ) → w.mark ≤ length w.out.now → filled (filled w s) t ≡ filled w (s ++ t)
filled_twice w s t h =
    let first = filled w s in
    let all = both_written h (put_written w.out.now w.mark s) (put_written first.out.now first.mark t) in
    λ i. record { out = at_last w.out (all.after_is i); mark = all.end_is i }

pub writing_laws : SinkLaws writing
writing_laws = record { none = filled_none; both = λ w s t h. filled_twice w s t (omega (arith, h)) }
