-- What laying out a list into a lent buffer answers and leaves there, refused input too: the claim on any call, and ours.
use Rattle.std.specs.Prelude.{◌≡◌, true, false, not, List, ℕ, ◌+◌, ◌≤◌, ◌<◌, eqb, ltb, length}
use Rattle.words.specs.Turn.{turned}
use Rattle.words.specs.Stand.{StandsSomeWay}
use Rattle.lists.specs.Refusals.{Refusal, whole, false_list_number, short_buffer_number, when, first_of}
use Rattle.lists.specs.Outcome.{Outcome, outcome}
use Rattle.lists.specs.Runs.{codes_in, total, lengths, over}
use Rattle.lists.specs.Rules.{FalseCodes}
use Rattle.lists.specs.Fit.{list_ok_lem}
use Rattle.joins.specs.Rules.{Chosen}
use Rattle.greedy.specs.Dropping.{Keeps}
use Rattle.greedy.specs.Rules.{Lays, AllStand, AtMostTwice}
use Rattle.greedy.specs.Layout.{ribbon_for, saved_by}

-- refused; or laid out, with the ribbon's length and what it saves
pub data LayAnswer : Type 0 where
  refused : Refusal → LayAnswer
  laid : (bands saved : ℕ) → LayAnswer

abbrev pub LayOutcome : Type 0
LayOutcome = Outcome LayAnswer (List ℕ)

-- The claim on a call: 12, then 13, each under its condition; a refused call changes no lent byte, and on success the buffer
-- past the ribbon keeps what it had.
module _ (run ls buffer : List ℕ) where
  pub data LaysInto : LayOutcome → Type 0 where
    false_list : FalseCodes run ls → LaysInto (outcome (refused (whole false_list_number)) buffer)
    short_buffer : {ribbon : List ℕ} {saved : ℕ} → (FalseCodes run ls → ⊥)
        → Lays Chosen turned (codes_in run ls) ribbon saved → length buffer < length ribbon
        → LaysInto (outcome (refused (whole short_buffer_number)) buffer)
    filled : {ribbon : List ℕ} {saved : ℕ} → (FalseCodes run ls → ⊥)
        → Lays Chosen turned (codes_in run ls) ribbon saved → length ribbon ≤ length buffer
        → LaysInto (outcome (laid (length ribbon) saved) (over ribbon buffer))

abbrev pub LaysOut : (List ℕ → List ℕ → List ℕ → LayOutcome) → Type 0
LaysOut call = (run ls buffer : List ℕ) → LaysInto run ls buffer (call run ls buffer)

-- Ours.
abbrev pub lay_fault : List ℕ → List ℕ → ℕ → ℕ
lay_fault run ls room =
    let cs = codes_in run ls in
    first_of (when (not (list_ok_lem run ls)) false_list_number) (when (ltb room (length (ribbon_for turned cs))) short_buffer_number)

abbrev pub lay_outcome : List ℕ → List ℕ → List ℕ → LayOutcome
lay_outcome run ls buffer =
    let cs = codes_in run ls in
    let f = lay_fault run ls (length buffer) in
    elim (eqb f 0) [
      | true ↦ outcome (laid (length (ribbon_for turned cs)) (saved_by turned cs)) (over (ribbon_for turned cs) buffer)
      | false ↦ outcome (refused (whole f)) buffer
    ]

-- What an answer with a ribbon means: the ribbon is the first of the buffer's bytes, the rest is as before, and the ribbon
-- and its saving have what demands 2 and 3 ask.
pub record Means (run ls before after : List ℕ) (bands saved : ℕ) : Type 0 where
  pub ribbon : List ℕ
  pub is_long : length ribbon ≡ bands
  pub written : after ≡ over ribbon before
  pub by_rule : Lays Chosen turned (codes_in run ls) ribbon saved
  pub all_stand : AllStand turned (codes_in run ls) ribbon
  pub adds_up : (ks : List (List ℕ)) → Keeps (StandsSomeWay turned) (codes_in run ls) ks
      → bands + saved ≡ total (lengths ks)
  pub at_most_twice : AtMostTwice turned (codes_in run ls) saved
