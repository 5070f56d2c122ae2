-- What place records hold: one in which nothing is set, and one that is lent, before a call.
use Rattle.std.specs.Prelude.{ℕ, ◌+◌, ◌%◌, ◌==◌, cond}
use Rattle.finding.specs.declared.Way.{Way}
use Rattle.finding.specs.declared.Way.TheVariants.{Given, Turned, Either}
use Rattle.places.specs.declared.Place.{Place}

abbrev pub blank : Place
blank = record { code = 0; way = Given 0 }

-- the ways in turn, each record with a number and a start of its own
abbrev pub way_mark : ℕ → ℕ → Way ℕ
way_mark n start = cond (n == 0) (Given start) (cond (n == 1) (Turned start) (Either start))

abbrev pub place_mark : ℕ → Place
place_mark i = record { code = 1000 + i % 130; way = way_mark (i % 3) (2000 + i % 130) }
