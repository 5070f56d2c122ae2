-- A place whose start is small enough for a record.
use Rattle.std.specs.Prelude.{ℕ, ◌≤◌}
use Rattle.words.specs.Place.{Place, given_at, turned_at, either_at, nowhere}

-- there is a place, and its start is at most n
abbrev pub StartsWithin : ℕ → Place → Type 0
StartsWithin n (given_at i) = i ≤ n
StartsWithin n (turned_at i) = i ≤ n
StartsWithin n (either_at i) = i ≤ n
StartsWithin n nowhere = ⊥
