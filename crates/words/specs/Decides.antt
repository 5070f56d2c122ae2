-- A test decides a statement: it is true where the statement holds, and false where it does not.
use Rattle.std.specs.Prelude.{Bool, true, false}

pub data Decides (P : Type 0) : Bool → Type 0 where
  yes : P → Decides P true
  no : (P → ⊥) → Decides P false
