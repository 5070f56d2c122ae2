-- The laws of a counter: no text is no byte, and two texts are as long as they are together.
use mathlib.Core.Path.{ap}
use Prim.Native.Nat.{ℕ}
use native.Mathlib.Omega.{arith}
use lib.ListN.{length-append}
use Rattle.fields.specs.declared.counter.Counter.{Counter}
use Rattle.fields.specs.Sinks.{SinkLaws}
use Rattle.fields.specs.Counted.{counting}

abbrev counter_at : ℕ → Counter
counter_at n = record { size = n }

pub counting_laws : SinkLaws counting
counting_laws =
    record { none = λ c. ap counter_at (omega arith); both = λ c a b h. ap counter_at (omega (arith, length-append a b)) }
