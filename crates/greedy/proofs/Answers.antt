-- The claim on a call that lays out a list: ours meets it and nothing else does. Of whatever call meets it, an answer
-- with saved has demand 3, and the ribbon holds every code.
use mathlib.Core.Path.{◌≡◌, refl, sym, ap, ap₂, subst, ◌∙◌}
use mathlib.Core.Bool.{Bool, true, false, not}
use mathlib.Core.List.{List}
use Prim.Native.Nat.{ℕ, ◌<◌}
use native.Mathlib.Omega.{arith}
use lib.Dec.{eqb, ltb}
use lib.ListN.{length}
use borrow.Author.Tests.{lt-ltb, le-ltb}
use Rattle.words.specs.Turn.{turned}
use Rattle.words.specs.Decides.{Decides, yes, no}
use Rattle.words.proofs.Turning.{turning}
use Rattle.words.proofs.Deciding.{passes, refuses, is_lt, not_lt}
use Rattle.lists.specs.Refusals.{Refusal, whole, false_list_number, short_buffer_number, when, first_of}
use Rattle.lists.specs.Outcome.{outcome}
use Rattle.lists.specs.Runs.{codes_in, over}
use Rattle.lists.specs.Rules.{FalseCodes}
use Rattle.lists.specs.Fit.{list_ok_lem}
use Rattle.lists.proofs.Rules.{is_false_codes}
use Rattle.joins.specs.Rules.{Chosen}
use Rattle.greedy.specs.Rules.{Lays}
use Rattle.greedy.specs.Layout.{ribbon_for, saved_by}
use Rattle.greedy.specs.Answers.{LayOutcome, refused, laid, LaysInto, false_list, short_buffer, filled}
use Rattle.greedy.specs.Answers.{LaysOut, lay_outcome, Means}
use Rattle.greedy.proofs.Laying.{lays_stand, lays_add, lays_twice}
use Rattle.greedy.proofs.Claims.{lays_ours, lays_only, chosen_largest}

module _ (run ls buffer : List ℕ) where
  abbrev cs : List (List ℕ)
  cs = codes_in run ls

  abbrev ribbon : List ℕ
  ribbon = ribbon_for turned cs

  -- ours by its tests: of the list, and of the buffer
  abbrev pub by_tests : Bool → Bool → LayOutcome
  by_tests bad short =
      let f = first_of (when bad false_list_number) (when short short_buffer_number) in
      elim (eqb f 0) [
        | true ↦ outcome (laid (length ribbon) (saved_by turned cs)) (over ribbon buffer)
        | false ↦ outcome (refused (whole f)) buffer
      ]

  as_tested : lay_outcome run ls buffer ≡ by_tests (not (list_ok_lem run ls)) (ltb (length buffer) (length ribbon))
  as_tested = refl

  -- Ours meets it.
  meets : {bad short : Bool} → Decides (FalseCodes run ls) bad → Decides (length buffer < length ribbon) short
      → LaysInto run ls buffer (by_tests bad short)
  meets (yes f) d = false_list f
  meets (no fit) (yes l) = short_buffer fit (lays_ours turned cs) l
  meets (no fit) (no l) = filled fit (lays_ours turned cs) (not_lt l)

  -- Nothing else does: each case is the one of ours.
  if_false : FalseCodes run ls → lay_outcome run ls buffer ≡ outcome (refused (whole false_list_number)) buffer
  if_false f =
      as_tested
      ∙ ap (λ (t : Bool). by_tests t (ltb (length buffer) (length ribbon))) (passes (is_false_codes run ls) f)

  if_fit : (FalseCodes run ls → ⊥) → (t : Bool) → ltb (length buffer) (length ribbon) ≡ t
      → lay_outcome run ls buffer ≡ by_tests false t
  if_fit fit t e =
      as_tested
      ∙ ap (λ (b : Bool). by_tests b (ltb (length buffer) (length ribbon))) (refuses (is_false_codes run ls) fit)
      ∙ ap (by_tests false) e

  into_only : {o : LayOutcome} → LaysInto run ls buffer o → o ≡ lay_outcome run ls buffer
  into_only (false_list f) = sym (if_false f)
  into_only (short_buffer fit x l) =
      let e = ap length (lays_only turned x).0 in
      sym (if_fit fit true (lt-ltb (length buffer) (length ribbon) (omega arith)))
  into_only (filled {ribbon = r} {saved = m} fit x l) =
      let e = lays_only turned x in
      let w = if_fit fit false (le-ltb (length buffer) (length ribbon) (omega (arith, ap length e.0))) in
      ap₂ (λ (s : List ℕ) (n : ℕ). outcome (laid (length s) n) (over s buffer)) e.0 e.1 ∙ sym w

pub lays_out_ours : LaysOut lay_outcome
lays_out_ours run ls buffer =
    meets run ls buffer (is_false_codes run ls) (is_lt (length buffer) (length (ribbon_for turned (codes_in run ls))))

pub lays_out_only : (call : List ℕ → List ℕ → List ℕ → LayOutcome) → LaysOut call → (run ls buffer : List ℕ)
    → call run ls buffer ≡ lay_outcome run ls buffer
lays_out_only call h run ls buffer = into_only run ls buffer (h run ls buffer)

-- What an answer with a ribbon means, of whatever call meets the claim.
pub laid_means : (run ls before after : List ℕ) (bands saved : ℕ)
    → LaysInto run ls before (outcome (laid bands saved) after) → Means run ls before after bands saved
laid_means run ls before after bands saved h = go h refl
  where
    given : {x y : LayOutcome} → x ≡ y → x.answer ≡ y.answer
    given e = ap (λ (o : LayOutcome). o.answer) e

    never : {r : Refusal} → refused r ≡ laid bands saved → Means run ls before after bands saved
    never e = let z : ◌≡◌ {A = ℕ} 0 1 = cc in absurd (omega arith)

    go : {o : LayOutcome} → LaysInto run ls before o → o ≡ outcome (laid bands saved) after
        → Means run ls before after bands saved
    go (false_list f) e = never (given e)
    go (short_buffer fit x l) e = never (given e)
    go (filled {ribbon = r} {saved = m} fit x l) e =
        let a = given e in
        let b : length r ≡ bands = cc (a) in
        let n : m ≡ saved = cc (a) in
        let y = subst (Lays Chosen turned (codes_in run ls) r) n x in
        let z = chosen_largest y in
        record {
          ribbon = r;
          is_long = b;
          written = sym (ap (λ (o : LayOutcome). o.after) e);
          by_rule = y;
          all_stand = lays_stand turning z;
          adds_up = λ ks k. omega (arith, lays_add turning z ks k);
          at_most_twice = lays_twice turning z;
        }
