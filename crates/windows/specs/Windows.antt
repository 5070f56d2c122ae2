-- Windows of n bands on a row, and what they add up to: a word of n bands stands only where the window adds up as it does (the
-- rolling sum of Karp and Rabin's fingerprints).
use Rattle.std.specs.Prelude.{◌≡◌, List, ℕ, ◌+◌, ◌≤◌, ◌<◌, length, take}
use Rattle.lists.specs.Runs.{total}

-- the n bands from the start h on add up to v
abbrev pub AddsUp : List ℕ → ℕ → ℕ → ℕ → Type 0
AddsUp s n h v = v + total (take h s) ≡ total (take (h + n) s)

-- a window on the row
pub record Windowed (s : List ℕ) (n start sum : ℕ) : Type 0 where
  pub within : start + n ≤ length s
  pub adds_up : AddsUp s n start sum

-- from a start to another, those from the least on that were passed add up to neither of two sums
pub record Skipped (s : List ℕ) (n given turned start least to : ℕ) : Type 0 where
  pub not_given : (h : ℕ) → start ≤ h → least ≤ h → h < to → AddsUp s n h given → ⊥
  pub not_turned : (h : ℕ) → start ≤ h → least ≤ h → h < to → AddsUp s n h turned → ⊥
