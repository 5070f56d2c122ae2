-- What the steps of the joining give, over one row of numbers: `after` has at each face the face after it plus 1.
use Rattle.std.specs.Prelude.{◌≡◌, List, [], ◌++◌, ℕ, ◌*◌, ◌≤◌, ◌<◌, length, get_or, drop}
use Rattle.joins.specs.Faces.{Join}
use Rattle.joins.specs.Rounds.{after_in, end_from_lem, layout_of, piece_from, piece_of}

-- a row that can be followed from face to face
pub record Row (n : ℕ) (after : List ℕ) : Type 0 where
  pub codes : n ≤ 128
  pub room : 256 ≤ length after
  pub within : (f : ℕ) → f < 2 * n → get_or after f 0 ≤ 2 * n

-- it says what the joins say
abbrev pub Records : ℕ → List ℕ → List Join → Type 0
Records n after js = (f : ℕ) → f < 2 * n → get_or after f 0 ≡ after_in f js

-- a row before the first round
pub record Unjoined (n : ℕ) (after : List ℕ) : Type 0 where
  pub row : Row n after
  pub records : Records n after []

-- r is the last face of the piece that holds f
pub record EndsAt (n : ℕ) (after : List ℕ) (f r : ℕ) : Type 0 where
  pub within : r < 2 * n
  pub end : (js : List Join) → Records n after js → r ≡ end_from_lem (2 * n) f js

-- the joining is done: the row has the joins of the layout
pub record Laid (n : ℕ) (w : ℕ → ℕ → ℕ) (after : List ℕ) : Type 0 where
  pub row : Row n after
  pub records : Records n after (layout_of n w)

-- a piece is written at the beginning of a row, and has r faces
pub record Wrote (piece before row : List ℕ) (r : ℕ) : Type 0 where
  pub count : r ≡ length piece
  pub written : row ≡ piece ++ drop (length piece) before

pub record WrotePiece (n : ℕ) (after : List ℕ) (f : ℕ) (before row : List ℕ) (r : ℕ) : Type 0 where
  pub wrote : (js : List Join) → Records n after js → Wrote (piece_from (2 * n) f js) before row r

-- the order that the joins give is written
pub record WroteOrder (n : ℕ) (after before row : List ℕ) (r : ℕ) : Type 0 where
  pub wrote : (js : List Join) → Records n after js → Wrote (piece_of n js) before row r
