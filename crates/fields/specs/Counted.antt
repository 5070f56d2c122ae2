-- What a counter is once a text is put into it.
use Rattle.std.specs.Prelude.{List, ℕ, ◌+◌, length}
use Rattle.fields.specs.declared.counter.Counter.{Counter}
use Rattle.fields.specs.Sinks.{Kind}

abbrev pub counted : Counter → List ℕ → Counter
counted c s = record { size = c.size + length s }

abbrev pub counting : Kind Counter
counting = record { taken = λ c. c.size; most = λ c. 18446744073709551615; filled = counted }
