-- The joins as the routines hold them: at each face the face after it, or none where it ends a piece.
use Rattle.std.specs.Prelude.{List, map, ℕ, suc, Option, Some, None}

-- as a number: the face plus 1, and 0 for none
abbrev pub number_of : Option ℕ → ℕ
number_of None = 0
number_of (Some f) = suc f

abbrev pub row_of : List (Option ℕ) → List ℕ
row_of after = map number_of after
