-- The pass over the faces of codes ks, by what the joining has.
use Rattle.std.specs.Prelude.{◌≡◌, List, ℕ, length}
use Rattle.words.specs.Turn.{turned}
use Rattle.joins.specs.Rows.{Laid}
use Rattle.joins.specs.Pass.{PassedRow}
use Rattle.joining.specs.Joins.{row_of}
use Rattle.greedy.specs.Reading.{shared}
use Rattle.faces.specs.declared.pass.Joining.{Joining}

module _ (ks : List (List ℕ)) where
  -- it has come to overlap o and face a
  pub record ComesTo (o a : ℕ) (joining : Joining) : Type 0 where
    pub codes : joining.sorted.now ≡ ks
    pub passed : PassedRow (length ks) (shared turned ks) (row_of joining.after) o a

  -- it is done: the row has the joins of the layout
  pub record Joined (joining : Joining) : Type 0 where
    pub codes : joining.sorted.now ≡ ks
    pub laid : Laid (length ks) (shared turned ks) (row_of joining.after)
