-- One pass in place of rounds: the overlaps from the largest down, and for each the faces in ascending order. What is
-- allowed only ever shrinks, so a join that is passed over is never wanted later.
use Rattle.std.specs.Prelude.{◌≡◌, ◌≢◌, List, ℕ, ◌*◌, ◌≤◌, ◌<◌, get_or}
use Rattle.joins.specs.Faces.{mirror, Join}
use Rattle.joins.specs.Rules.{Allowed, Chosen, Run}
use Rattle.joins.specs.Rows.{Row, Records}

-- The pass has come to overlap o and face a: the joins made are those of a run, no join of a larger overlap is allowed any
-- more, and none of overlap o from a face below a.
pub record Passed (n : ℕ) (w : ℕ → ℕ → ℕ) (js : List Join) (o a : ℕ) : Type 0 where
  pub run : Run (Chosen n w) js
  pub larger : (c d : ℕ) → Allowed n js c d → w c d ≤ o
  pub lower : (c d : ℕ) → Allowed n js c d → w c d ≡ o → a ≤ c

-- a row with the joins of a pass that has come so far
pub record PassedRow (n : ℕ) (w : ℕ → ℕ → ℕ) (after : List ℕ) (o a : ℕ) : Type 0 where
  pub joins : List Join
  pub row : Row n after
  pub records : Records n after joins
  pub passed : Passed n w joins o a

-- By the row: b begins a piece, which is not the one with this head, and b is not a's mirror.
pub record Joinable (n : ℕ) (after : List ℕ) (a head b : ℕ) : Type 0 where
  pub within : b < 2 * n
  pub begins : get_or after (mirror b) 0 ≡ 0
  pub unclosed : b ≢ head
  pub unmirrored : b ≢ mirror a
