-- The ribbon of an order of faces of some codes, whatever the order.
use Rattle.std.specs.Prelude.{◌≡◌, List, ℕ, ◌*◌, ◌≤◌, ◌<◌, length, get_or}
use Rattle.words.specs.Turn.{turned}
use Rattle.parts.specs.Parts.{Short}
use Rattle.greedy.specs.Reading.{skip_at_lem, read_piece, saved_along}

module _ (ks : List (List ℕ)) where
  pub record InOrder (p : List ℕ) : Type 0 where
    pub few : length p ≤ 256
    pub short : Short ks
    pub faces : (i : ℕ) → i < length p → get_or p i 0 < 2 * length ks

  -- its length and what it saves, which are small
  pub record Measures (p : List ℕ) (bands saved : ℕ) : Type 0 where
    pub long : bands ≡ length (read_piece turned ks p)
    pub saves : saved ≡ saved_along turned ks p
    pub small : (bands ≤ 16384) × (saved ≤ 16384)

  -- what each face of the order shares with the one before it, at the front of a row
  pub record Skips (p skips : List ℕ) : Type 0 where
    pub room : length p ≤ length skips
    pub each : (i : ℕ) → i < length p → get_or skips i 0 ≡ skip_at_lem turned ks p i

  -- both, where a row is lent for what is shared: what is behind it there stays
  pub record Measured (p before after : List ℕ) (bands saved : ℕ) : Type 0 where
    pub sums : Measures p bands saved
    pub skips : Skips p after
    pub as_long : length after ≡ length before
    pub behind : (i : ℕ) → length p ≤ i → get_or after i 0 ≡ get_or before i 0
