-- The contract of the public call that reads an order list: its answer and what it leaves in lent memory are the defined
-- ones.
use Rattle.std.specs.Prelude.{◌≡◌, List, ℕ, ◌<◌, Result, Ok, Err}
use Rattle.lists.specs.Refusals.{short_buffer_number}
use Rattle.lists.specs.Answers.{refusal_of}
use Rattle.lists.specs.declared.numbers.Refusal.{Refusal}
use Rattle.grammar.specs.Files as files
use Rattle.entries.specs.Gathering.{Gathering}
use Rattle.grammar.specs.Grammar.{Reads}
use Rattle.grammar.specs.HandsOn.{HandedOn}
use Rattle.grammar.specs.Answers.{Lent, result_of, put_into, ReadAnswer, ReadOutcome, refused, read, counts, Short}
use Rattle.grammar.specs.Answers.{outcome_for, read_outcome}
use Rattle.entries.specs.declared.collect.Gathered.{Gathered}
use Rattle.orders.specs.declared.Orders.{Orders}

-- what the call answers
abbrev pub Answer : Type 0
Answer = Result Orders Refusal

-- document 01's number and values for it
abbrev pub answer_of : Answer → ReadAnswer
answer_of (Ok o) = read o.codes o.bands o.names
answer_of (Err r) = refused (refusal_of r)

-- what a call hands back, and what the lent buffers hold after it, are this outcome's
pub record Gives (o : ReadOutcome) (left : Lent) (r : Answer) : Type 0 where
  pub answer : answer_of r ≡ o.answer
  pub after : left ≡ o.after

-- a call on a file and lent buffers
abbrev pub ReadsAs : List ℕ → Lent → Lent → Answer → Type 0
ReadsAs file before left r = Gives (read_outcome file before) left r

-- from what was gathered on: whichever orders those are, the outcome is that answer's
abbrev pub HandsOver : Gathered → Lent → Lent → Answer → Type 0
HandsOver all before left r = (x : files.Orders) → Gathering x all → Gives (outcome_for x before) left r

-- What the call means in document 01's words. Where it answers with orders: these names and codes are what is written in
-- the file, which keeps the rules; they stand at the beginnings of the buffers, each long enough, and the later calls take
-- them.
pub record Accepts (file : List ℕ) (before left : Lent) (codes bands names : ℕ) : Type 0 where
  pub ns : List (List ℕ)
  pub cs : List (List ℕ)
  pub due : Reads file (files.orders 0 0 ns cs)
  pub long_enough : Short before (result_of ns cs) → ⊥
  pub written : left ≡ put_into (result_of ns cs) before
  pub counted : read codes bands names ≡ counts (result_of ns cs)
  pub handed_on : HandedOn ns cs

-- Where it refuses: the number is due for the file in that row, or 13 for a buffer that is too short for what is accepted.
pub data Refuses (file : List ℕ) (before : Lent) : ℕ → ℕ → Type 0 where
  in_file : {n l : ℕ} → Reads file (files.bad n l) → 0 < n → Refuses file before n l
  in_buffers : {ns cs : List (List ℕ)} → Reads file (files.orders 0 0 ns cs) → Short before (result_of ns cs)
      → Refuses file before short_buffer_number 0

abbrev pub Means : List ℕ → Lent → Lent → Answer → Type 0
Means file before left (Ok o) = Accepts file before left o.codes o.bands o.names
Means file before left (Err r) = Refuses file before (refusal_of r).number (refusal_of r).row × (left ≡ before)

-- What reading an order list promises: the one outcome that is defined, and what it means.
pub record ReadsOrders (file : List ℕ) (before left : Lent) (r : Answer) : Type 0 where
  pub gives : ReadsAs file before left r
  pub means : Means file before left r
