-- No line has more than 32 bytes, since no number of 32 bits has more than ten digits, and one with a sign eleven bytes.
use mathlib.Core.List.{◌∷◌, ◌++◌}
use Prim.Native.Nat.{ℕ, suc, ◌≤◌, ◌<◌}
use native.Mathlib.Omega.{arith}
use lib.IntN.{ℤ, pos, negsuc}
use lib.ListN.{length, length-append}
use lib.Signed.{mag}
use Rattle.lists.specs.Answers.{number_of, refusal_of}
use Rattle.lists.specs.declared.numbers.Fault.{Fault}
use Rattle.lists.specs.declared.numbers.Refusal.{Refusal}
use Rattle.grammar.specs.Files.{comma, line_break}
use Rattle.sheets.specs.Decimal.{decimal}
use Rattle.sheets.proofs.Decimal.{decimal_few}
use Rattle.programs.specs.Programs.{refused_line_lem, signed, held_line_lem, missing_line_lem}

small : (f : Fault) → number_of f < 256
small f = grind arith

pub refused_short : (r : Refusal) → r.row < 4294967296 → length (refused_line_lem (refusal_of r)) ≤ 32
refused_short r h =
    let n = number_of r.fault in
    omega (
      arith,
      length-append (decimal n) (comma ∷ (decimal r.row ++ line_break)),
      length-append (decimal r.row) line_break,
      decimal_few n (omega (arith, small r.fault)),
      decimal_few r.row h,
    )

pub missing_short : (k : ℕ) → k < 4294967296 → length (missing_line_lem k) ≤ 32
missing_short k h = omega (arith, length-append (decimal k) line_break, decimal_few k h)

pub held_short : (d : ℤ) → mag d < 2147483648 → length (held_line_lem d) ≤ 32
held_short d h = omega (arith, length-append (signed d) line_break, eleven_bytes d h)
  where
    eleven_bytes : (z : ℤ) → mag z < 2147483648 → length (signed z) ≤ 11
    eleven_bytes (pos n) h = omega (arith, decimal_few n (omega (arith, h)))
    eleven_bytes (negsuc n) h = omega (arith, decimal_few (suc n) (omega (arith, h)))
