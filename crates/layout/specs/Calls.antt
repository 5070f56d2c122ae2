-- What laying out a ribbon promises: its answer and what it leaves in lent memory are the defined ones, and what they mean.
use Rattle.std.specs.Prelude.{◌≡◌, true, false, List, ℕ, ltb, length, Result, Ok, Err}
use Rattle.words.specs.Turn.{turned}
use Rattle.lists.specs.Refusals.{whole, short_buffer_number}
use Rattle.lists.specs.Answers.{refusal_of}
use Rattle.lists.specs.declared.numbers.Refusal.{Refusal}
use Rattle.lists.specs.Outcome.{outcome}
use Rattle.lists.specs.Runs.{over}
use Rattle.greedy.specs.Reading.{read_piece, saved_along}
use Rattle.greedy.specs.Layout.{order_for}
use Rattle.greedy.specs.Answers.{LayAnswer, refused, laid, LayOutcome, LaysInto, lay_outcome, Means}
use Rattle.layout.specs.Laid.{Laid}

-- The outcome by stages: the ribbon of an order of faces of the kept codes ks, and of the order that joining
-- gives.
unfoldable pub order_outcome : List (List ℕ) → List ℕ → List ℕ → LayOutcome
order_outcome ks p buffer = elim (ltb (length buffer) (length (read_piece turned ks p))) [
  | true ↦ outcome (refused (whole short_buffer_number)) buffer
  | false ↦ outcome (laid (length (read_piece turned ks p)) (saved_along turned ks p)) (over (read_piece turned ks p) buffer)
]

abbrev pub kept_outcome : List (List ℕ) → List ℕ → LayOutcome
kept_outcome ks buffer = order_outcome ks (order_for turned ks) buffer

-- The answer of a routine: document 01's number and row, or the values, for each case.
abbrev pub answer_of : Result Laid Refusal → LayAnswer
answer_of (Ok r) = laid r.bands r.saved
answer_of (Err r) = refused (refusal_of r)

-- The routine answers as an outcome says, and leaves in lent memory what it says.
pub record Gives (o : LayOutcome) (after : List ℕ) (r : Result Laid Refusal) : Type 0 where
  pub answer : answer_of r ≡ o.answer
  pub left : after ≡ o.after

-- What an answer means, in the rules' words: a refusal is due by the table's condition and nothing lent is touched; a
-- ribbon is as above, and so demand 3 holds of the saved that is answered.
abbrev pub AnswerMeans : (run ls before after : List ℕ) → Result Laid Refusal → Type 0
AnswerMeans run ls before after (Ok r) = Means run ls before after r.bands r.saved
AnswerMeans run ls before after (Err r) = LaysInto run ls before (outcome (refused (refusal_of r)) after)

-- What laying out a ribbon promises: the one outcome that is defined, and what it means.
pub record LaysRibbon (run ls before after : List ℕ) (r : Result Laid Refusal) : Type 0 where
  pub gives : Gives (lay_outcome run ls before) after r
  pub means : AnswerMeans run ls before after r
