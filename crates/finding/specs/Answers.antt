-- The place that an answer of the search tells, and its start.
use Rattle.std.specs.Prelude.{Option, Some, None, ℕ}
use Rattle.words.specs.Place.{Place, given_at, turned_at, either_at, nowhere}
use Rattle.finding.specs.declared.Way.{Way}
use Rattle.finding.specs.declared.Way.TheVariants.{Given, Turned, Either}

abbrev pub way_at : Way ℕ → Place
way_at (Given i) = given_at i
way_at (Turned i) = turned_at i
way_at (Either i) = either_at i

abbrev pub place_in : Option (Way ℕ) → Place
place_in (Some w) = way_at w
place_in None = nowhere

-- the start of a place
abbrev pub start_of : {N : Type 0} → Way N → N
start_of (Given i) = i
start_of (Turned i) = i
start_of (Either i) = i
