-- What the search for a start is handed: a word of 1 to 64 bands, and a row that has room for it from the first start on.
use Rattle.std.specs.Prelude.{List, ℕ, ◌+◌, ◌≤◌, ◌<◌, length}

pub record Sought (c s : List ℕ) (from : ℕ) : Type 0 where
  pub some : 0 < length c
  pub few : length c ≤ 64
  pub room : from + length c ≤ length s
