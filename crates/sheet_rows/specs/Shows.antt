-- What the rows show of where the codes stand.
use Rattle.std.specs.Prelude.{◌≡◌, List, ℕ, ◌≤◌, ◌<◌, length, get_or}
use Rattle.words.specs.Turn.{turned}
use Rattle.words.specs.Place.{place_of}
use Rattle.words.specs.Count.{count_of}
use Rattle.lists.specs.Runs.{codes_in}
use Rattle.greedy.specs.Dropping.{code_at}
use Rattle.places.specs.Calls.{way_at, FindsPlaces}
use Rattle.places.specs.declared.Place.{Place}
use Rattle.finding.specs.declared.Way.{Way}
use Rattle.finding.specs.declared.Way.TheVariants.{Given}
use Rattle.sheet_rows.specs.declared.pieces.Shown.{Shown}

-- what stands in a row where nothing is shown yet
abbrev pub unset : Shown
unset = record { way = Given 0; places = 0 }

abbrev pub nth_shown : List Shown → ℕ → Shown
nth_shown all i = get_or all i unset

-- a code's place on a ribbon, and how often it stands there
pub record ShowsCode (c ribbon : List ℕ) (s : Shown) : Type 0 where
  pub place : way_at s.way ≡ place_of turned 0 c ribbon
  pub count : s.places ≡ count_of turned c ribbon

-- all codes of a list, in list order, at the front of a row
pub record ShowsCodes (run ls ribbon : List ℕ) (all : List Shown) : Type 0 where
  pub room : length all ≡ 128
  pub each : (i : ℕ) → i < length ls → ShowsCode (code_at (codes_in run ls) i) ribbon (nth_shown all i)

-- a code of 1 to 64 bands that has its place this way on a ribbon that is not too long to be supplied
pub record HasPlace (c ribbon : List ℕ) (way : Way ℕ) : Type 0 where
  pub some : 0 < length c
  pub few : length c ≤ 64
  pub short : length ribbon ≤ 16384
  pub place : way_at way ≡ place_of turned 0 c ribbon

-- all codes of a list have places on such a ribbon, by these records
pub record AllPlaced (run ls ribbon : List ℕ) (all : List Place) : Type 0 where
  pub short : length ribbon ≤ 16384
  pub placed : FindsPlaces run ls ribbon (length ls) all
