-- Where a pass goes on.
use Rattle.std.specs.Prelude.{ℕ, ◌≤◌, ◌<◌}

-- a pass that has passed e bands and holds g and t goes on at a start behind them, where nothing is held, or stays
pub data Moved (start e g t : ℕ) : (end given turned : ℕ) → Type 0 where
  on : e ≤ start → Moved start e g t start 0 0
  stays : start < e → Moved start e g t e g t
