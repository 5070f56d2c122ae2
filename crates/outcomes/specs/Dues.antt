-- How many records a check fills: one for each code where all are held.
use Rattle.std.specs.Prelude.{ℕ}
use Rattle.verdicts.specs.declared.Checked.{Checked}
use Rattle.verdicts.specs.declared.Checked.TheVariants.{Missing, Held}

abbrev pub records_due : Checked → ℕ → ℕ
records_due (Missing _) _ = 0
records_due (Held _) codes = codes
