-- The layout computed, in three stages: the kept codes, the order of their faces, the ribbon of that order.
use Rattle.std.specs.Prelude.{List, ℕ, length}
use Rattle.joins.specs.Rounds.{order_of}
use Rattle.greedy.specs.Dropping.{kept}
use Rattle.greedy.specs.Reading.{shared, read_piece, saved_along}

module _ (turn : List ℕ → List ℕ) where
  abbrev pub order_for : List (List ℕ) → List ℕ
  order_for ks = order_of (length ks) (shared turn ks)

  abbrev pub ribbon_for : List (List ℕ) → List ℕ
  ribbon_for cs = let ks = kept turn cs in read_piece turn ks (order_for ks)

  abbrev pub saved_by : List (List ℕ) → ℕ
  saved_by cs = let ks = kept turn cs in saved_along turn ks (order_for ks)
