-- A word read one way or the other: as given, or turned.
use Rattle.std.specs.Prelude.{Bool, List, ℕ}
use Rattle.words.specs.Tests.{pick}
use Rattle.words.specs.Turn.{turned}

-- true is the turned way
abbrev pub way_of : Bool → List ℕ → List ℕ
way_of way c = pick way (turned c) c
