-- The words that a run of bytes and its lengths hold.
use Rattle.std.specs.Prelude.{List, ℕ}
use Rattle.lists.specs.Runs.{codes_in}
use Rattle.lists.specs.declared.handed.Run.{Run}

abbrev pub words_of : Run → List (List ℕ)
words_of r = codes_in r.bytes.now r.sizes.now
