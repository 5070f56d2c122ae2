-- What laying out a ribbon promises follows from its outcome alone: the outcome meets the claim on calls, so a refusal is
-- due by the table, and an answer with saved has demands 2 and 3.
use mathlib.Core.Path.{◌≡◌, sym, ap, ap₂, subst, ◌∙◌}
use mathlib.Core.Bool.{true}
use Rattle.std.proofs.Common.{Result, Ok, Err}
use mathlib.Core.List.{List}
use Prim.Native.Nat.{ℕ, ◌+◌, ◌*◌, ◌≤◌}
use native.Mathlib.Omega.{arith}
use lib.ListN.{length, take, drop, length-append}
use lib.Seq.{take-append_seam}
use Rattle.words.specs.Turn.{turned}
use Rattle.words.proofs.Standing.{is_some_way}
use Rattle.lists.specs.Outcome.{outcome}
use Rattle.lists.specs.Runs.{codes_in, total, lengths, over}
use Rattle.lists.specs.Fit.{list_ok_lem}
use Rattle.lists.specs.declared.numbers.Refusal.{Refusal}
use Rattle.greedy.specs.Dropping.{kept}
use Rattle.greedy.specs.Rules.{AllStand}
use Rattle.greedy.specs.Layout.{ribbon_for, saved_by}
use Rattle.greedy.specs.Answers.{LayAnswer, LaysInto, lay_outcome}
use Rattle.greedy.proofs.Claims.{lays_only}
use Rattle.greedy.proofs.Room.{ribbon_at_most, accepts}
use Rattle.layout.specs.Calls.{answer_of, Gives, AnswerMeans, LaysRibbon}
use Rattle.layout.specs.Laid.{Laid}
use Rattle.greedy.proofs.Dropping.{keeper_ours}
use Rattle.greedy.proofs.Answers.{lays_out_ours, laid_means}

module _ (run ls before : List ℕ) {after : List ℕ} where
  -- the outcome of a call, as a whole
  given : {r : Result Laid Refusal} → Gives (lay_outcome run ls before) after r → LaysInto run ls before (outcome (answer_of r) after)
  given g =
      subst (LaysInto run ls before)
      (ap₂ (λ (x : LayAnswer) (l : List ℕ). outcome x l) (sym g.answer) (sym g.left))
      (lays_out_ours run ls before)

  pub answer_means : (r : Result Laid Refusal) → Gives (lay_outcome run ls before) after r → AnswerMeans run ls before after r
  answer_means (Ok x) g = laid_means run ls before after x.bands x.saved (given g)
  answer_means (Err x) g = given g

  pub lays_ribbon : {r : Result Laid Refusal} → Gives (lay_outcome run ls before) after r → LaysRibbon run ls before after r
  lays_ribbon {r} g = record { gives = g; means = answer_means r g }

-- Demand 3 about the call: if it answers with saved, then for every row on which every code of the list stands, the kept
-- codes' lengths, added up, are at most its length plus twice that saved.
pub demand_3_of_call : {run ls before after : List ℕ} {laid : Laid} → LaysRibbon run ls before after (Ok laid)
    → (rival : List ℕ) → AllStand turned (codes_in run ls) rival
    → total (lengths (kept turned (codes_in run ls))) ≤ length rival + 2 * laid.saved
demand_3_of_call {run} {ls} p rival all =
    p.means.at_most_twice (kept turned (codes_in run ls)) rival (keeper_ours (is_some_way turned) (codes_in run ls)) all

-- For callers that have a fit list and room for any ribbon. What is told of an answer is told of the case that it is.
pub told : {run ls before after : List ℕ} {r x : Result Laid Refusal} → LaysRibbon run ls before after r → r ≡ x → LaysRibbon run ls before after x
told {run} {ls} {before} {after} p e = subst (LaysRibbon run ls before after) e p

pub never_refused : (run ls before : List ℕ) {after : List ℕ} {r : Refusal} → list_ok_lem run ls ≡ true
    → 8192 ≤ length before → LaysRibbon run ls before after (Err r) → ⊥
never_refused run ls before ok room p =
    let e = p.gives.answer ∙ accepts run ls before ok (omega (arith, ribbon_at_most run ls ok)) in
    let z : ◌≡◌ {A = ℕ} 0 1 = cc in
    omega arith

-- A ribbon that is laid out is ours.
module _ {run ls before after : List ℕ} {laid : Laid} (p : LaysRibbon run ls before after (Ok laid)) where
  pub ribbon_is : p.means.ribbon ≡ ribbon_for turned (codes_in run ls)
  ribbon_is = (lays_only turned p.means.by_rule).0

  pub saved_is : laid.saved ≡ saved_by turned (codes_in run ls)
  saved_is = (lays_only turned p.means.by_rule).1

  pub size_is : laid.bands ≡ length (ribbon_for turned (codes_in run ls))
  size_is = sym p.means.is_long ∙ ap length ribbon_is

  pub left_is : after ≡ over (ribbon_for turned (codes_in run ls)) before
  left_is = p.means.written ∙ ap (λ (r : List ℕ). over r before) ribbon_is

  pub fits : laid.bands ≤ length after
  fits =
      let r = ribbon_for turned (codes_in run ls) in
      omega (arith, size_is, ap length left_is, length-append r (drop (length r) before))

  pub front_is : take laid.bands after ≡ ribbon_for turned (codes_in run ls)
  front_is =
      let r = ribbon_for turned (codes_in run ls) in
      rw (left_is, size_is) (take-append_seam r (drop (length r) before))
