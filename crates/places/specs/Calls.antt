-- Place records, and what the search for one place and that for the places of all codes promise.
use Rattle.std.specs.Prelude.{◌≡◌, true, false, List, [], ◌∷◌, map, ℕ, suc, ◌≤◌, ◌<◌, length, take, drop, replicate}
use Rattle.words.specs.Turn.{turned}
use Rattle.words.specs.Place.{Place, given_at, turned_at, either_at, nowhere, place_of, found}
use Rattle.lists.specs.Runs.{codes_in}
use Rattle.lists.specs.Fit.{list_ok_lem}
use Rattle.greedy.specs.Dropping.{code_at}
use Rattle.checking.specs.Answers.{PlaceRecord}
use Rattle.checking.specs.Answers.{records_from}
use Rattle.finding.specs.declared.Way.{Way}
use Rattle.finding.specs.declared.Way.TheVariants.{Given, Turned, Either}
pub use Rattle.finding.specs.Answers.{way_at}
use Rattle.places.specs.declared.Place as declared

-- A lent record: the code's number, and its way with the start.
abbrev pub record_of_lem : declared.Place → PlaceRecord
record_of_lem p = record { code = p.code; place = way_at p.way }

abbrev pub records_of : List declared.Place → List PlaceRecord
records_of = map record_of_lem

-- The lent record of a place: the way as it is. Where there is no place nobody asks for its record.
abbrev pub way_of : Place → Way ℕ
way_of (given_at i) = Given i
way_of (turned_at i) = Turned i
way_of (either_at i) = Either i
way_of nowhere = Given 0

abbrev pub place_for : ℕ → List ℕ → List ℕ → declared.Place
place_for i c row = record { code = i; way = way_of (place_of turned 0 c row) }

-- Code i of a fit list has a place, on a ribbon that is not too long to be supplied.
pub record HasPlace (run ls row : List ℕ) (i : ℕ) : Type 0 where
  pub fit : list_ok_lem run ls ≡ true
  pub short : length row ≤ 16384
  pub listed : i < length ls
  pub stands : found (place_of turned 0 (code_at (codes_in run ls) i) row) ≡ true

-- The first codes, so many, have places.
pub record HavePlaces (run ls row : List ℕ) (n : ℕ) : Type 0 where
  pub listed : n ≤ length ls
  pub each : (i : ℕ) → i < n → HasPlace run ls row i

-- The records of all codes, in list order, of which the first has the number i.
abbrev pub places_from : ℕ → List (List ℕ) → List ℕ → List declared.Place
places_from i [] row = []
places_from i (c ∷ cs) row = place_for i c row ∷ places_from (suc i) cs row

-- A row of records in which none is set: code 0, given at 0.
unfoldable pub blanks : List declared.Place
blanks = replicate 128 (record { code = 0; way = Given 0 })

-- The places of the codes of a list, in list order, until one has none: so many have one, and their records stand at the
-- front of a row of them, in which no other is set.
pub record FindsPlaces (run ls row : List ℕ) (count : ℕ) (all : List declared.Place) : Type 0 where
  pub within : count ≤ length ls
  pub room : length all ≡ 128
  pub are : records_of (take count all) ≡ records_from 0 (take count (codes_in run ls)) row
  pub rest : drop count all ≡ drop count blanks
  pub stops : count < length ls → found (place_of turned 0 (code_at (codes_in run ls) count) row) ≡ false
