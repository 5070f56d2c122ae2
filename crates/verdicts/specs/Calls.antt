-- What the calls that check a supplied ribbon promise: their answer and the lent records after are the defined ones, and
-- what they mean.
use Rattle.std.specs.Prelude.{◌≡◌, List, ℕ, ◌≤◌, length, take, drop, Result, Ok, Err}
use Rattle.lists.specs.Answers.{refusal_of}
use Rattle.lists.specs.declared.numbers.Refusal.{Refusal}
use Rattle.lists.specs.Outcome.{outcome}
use Rattle.lists.specs.Runs.{over}
use Rattle.checking.specs.Answers.{CheckAnswer, refused, missing_code, held}
use Rattle.checking.specs.Answers.{ChecksInto, check_outcome}
use Rattle.places.specs.declared.Place as declared
use Rattle.places.specs.Calls.{records_of, blanks}
use Rattle.verdicts.specs.declared.Checked.{Checked}
use Rattle.verdicts.specs.declared.Checked.TheVariants.{Missing, Held}

-- The answer of a routine: document 01's number and row, or the values, for each case.
abbrev pub answer_of : Result Checked Refusal → CheckAnswer
answer_of (Ok (Missing k)) = missing_code k
answer_of (Ok (Held d)) = held d
answer_of (Err r) = refused (refusal_of r)

-- What a check promises: the one outcome that is defined, and what it means.
pub record ChecksRibbon (run ls row : List ℕ) (before after : List declared.Place) (r : Result Checked Refusal) : Type 0 where
  pub answer : answer_of r ≡ (check_outcome run ls row (records_of before)).answer
  pub left : records_of after ≡ (check_outcome run ls row (records_of before)).after
  pub means : ChecksInto run ls row (records_of before) (outcome (answer_of r) (records_of after))

-- The same by value, for room for so many records: the answer, and the records that are due, at the front of a row of them.
-- Whatever records are lent, writing those over them is what a check leaves. Behind those that are due none is set.
pub record ChecksInRoom (run ls row : List ℕ) (room : ℕ) (r : Result Checked Refusal) (due : ℕ) (all : List declared.Place) : Type 0 where
  pub few : due ≤ 128
  pub fits : due ≤ room
  pub rest : drop due all ≡ drop due blanks
  pub checks : (before : List declared.Place) → length before ≡ room
      → ChecksRibbon run ls row before (over (take due all) before) r

-- The answer alone, as a check with room enough gives it: whatever records are lent, 128 or more, there are such after it.
pub record ChecksAlone (run ls row : List ℕ) (r : Result Checked Refusal) : Type 0 where
  pub after : List declared.Place → List declared.Place
  pub checks : (before : List declared.Place) → 128 ≤ length before → ChecksRibbon run ls row before (after before) r
