-- The rules of document 01 for the whole way from a list to its ribbon, as claims on any candidate. No search is written
-- here; a ribbon and a saving that somebody hands us are right if they meet them.
use Rattle.std.specs.Prelude.{◌≡◌, List, ℕ, ◌+◌, ◌*◌, ◌≤◌, length}
use Rattle.words.specs.Lists.{In, Each}
use Rattle.words.specs.Stand.{StandsSomeWay}
use Rattle.lists.specs.Runs.{total, lengths}
use Rattle.joins.specs.Faces.{Join}
use Rattle.joins.specs.Rules.{IsPiece, Joins}
use Rattle.greedy.specs.Dropping.{Keeps}
use Rattle.greedy.specs.Reading.{shared, read_piece, saved_along}

-- The ribbon is read from the piece that holds face 0; saved is the sum of the overlaps along that piece.
pub record Reads (turn : List ℕ → List ℕ) (ks : List (List ℕ)) (js : List Join) (ribbon : List ℕ) (saved : ℕ) : Type 0 where
  pub order : List ℕ
  pub piece : IsPiece js order
  pub holds : In 0 order
  pub read : ribbon ≡ read_piece turn ks order
  pub sum : saved ≡ saved_along turn ks order

-- Which joins a round may take: `Chosen` is document 01's rule, `Largest` leaves the ties to anybody.
abbrev pub Picking : Type 1
Picking = ℕ → (ℕ → ℕ → ℕ) → List Join → ℕ → ℕ → Type 0

-- The whole: contained codes dropped, the rest joined, the ribbon read.
pub record Lays (Picks : Picking) (turn : List ℕ → List ℕ) (cs : List (List ℕ)) (ribbon : List ℕ) (saved : ℕ) : Type 0 where
  pub ks : List (List ℕ)
  pub js : List Join
  pub keeps : Keeps (StandsSomeWay turn) cs ks
  pub joins : Joins (Picks (length ks) (shared turn ks)) (length ks) js
  pub reads : Reads turn ks js ribbon saved

-- every code of the list stands on the row, one way or the other
abbrev pub AllStand : (List ℕ → List ℕ) → List (List ℕ) → List ℕ → Type 0
AllStand turn cs row = Each (λ c. StandsSomeWay turn c row) cs

-- Demand 3 (a compression ratio of at least one half), of what somebody says is saved: whatever row somebody else holds on
-- which every code stands, the lengths of the kept codes, added up, are at most its length plus twice that saving.
abbrev pub AtMostTwice : (List ℕ → List ℕ) → List (List ℕ) → ℕ → Type 0
AtMostTwice turn cs saved =
    (ks : List (List ℕ)) (rival : List ℕ) → Keeps (StandsSomeWay turn) cs ks → AllStand turn cs rival
    → total (lengths ks) ≤ length rival + 2 * saved
