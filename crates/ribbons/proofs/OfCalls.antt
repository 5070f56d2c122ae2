-- Demand 2 of the check and of the sheet, from nothing but their contracts: each answer comes with the case of the claim
-- that gives it.
use mathlib.Core.Path.{◌≡◌, refl, subst}
use mathlib.Core.Logic.{inl, inr}
use Rattle.std.proofs.Common.{Result, Ok, Err}
use mathlib.Core.List.{List}
use Prim.Native.Nat.{ℕ, ◌≤◌}
use native.Mathlib.Omega.{arith}
use lib.IntN.{ℤ}
use lib.ListN.{length, length-map}
use Rattle.words.specs.Turn.{turned}
use Rattle.words.specs.Lists.{Each}
use Rattle.words.proofs.Lists.{each_map}
use Rattle.words.proofs.Turning.{turning}
use Rattle.words.proofs.Deciding.{holds, passes}
use Rattle.lists.specs.Runs.{codes_in}
use Rattle.lists.specs.Refusals as refusals
use Rattle.lists.specs.declared.numbers.Refusal.{Refusal}
use Rattle.lists.specs.Rules.{Band, CodeRule, Printed, NameRule}
use Rattle.lists.proofs.Rules.{codes_checked, names_checked, is_fit_list, is_fit_names}
use Rattle.joins.specs.Rules.{Chosen}
use Rattle.greedy.specs.Rules.{Lays, AllStand}
use Rattle.greedy.proofs.Claims.{chosen_largest}
use Rattle.greedy.proofs.Laying.{lays_twice}
use Rattle.sheets.specs.Answers.{SheetOutcome, written, SheetsInto}
use Rattle.sheets.specs.Answers as sheet
use Rattle.sheets.proofs.ReadBack.{reads_back}
use Rattle.checking.specs.Check.{all_held}
use Rattle.checking.specs.Answers.{CheckOutcome, refused, missing_code, held, Fit, ChecksInto}
use Rattle.checking.specs.Answers.{false_list, long_ribbon, no_colour, no_place, short_buffer, filled}
use Rattle.places.specs.Calls.{record_of_lem, records_of}
use Rattle.verdicts.specs.Calls.{ChecksRibbon}
use Rattle.places.specs.declared.Place as declared
use Rattle.verdicts.specs.declared.Checked.{Checked}
use Rattle.verdicts.specs.declared.Checked.TheVariants.{Missing, Held}
use Rattle.checking.proofs.Check.{missing_one}
use Rattle.ribbons.specs.Demands.{PassesExactly, SheetIs, SheetIsTrue}

module _ (run ls row : List ℕ) (before after : List declared.Place) where
  held_stands : {o : CheckOutcome} {d : ℤ} → ChecksInto run ls row (records_of before) o → o.answer ≡ held d
      → AllStand turned (codes_in run ls) row
  held_stands (false_list f) e = cc
  held_stands (long_ribbon f l) e = cc
  held_stands (no_colour f l b) e = cc
  held_stands (no_place f m) e = cc
  held_stands (short_buffer f a l) e = cc
  held_stands (filled rs f a l x y z) e = a

  missing_stands_not : {o : CheckOutcome} {k : ℕ} → ChecksInto run ls row (records_of before) o → o.answer ≡ missing_code k
      → AllStand turned (codes_in run ls) row → ⊥
  missing_stands_not (false_list f) e a = cc
  missing_stands_not (long_ribbon f l) e a = cc
  missing_stands_not (no_colour f l b) e a = cc
  missing_stands_not (no_place f m) e a = let n = missing_one (all_held a) m in cc
  missing_stands_not (short_buffer f b l) e a = cc
  missing_stands_not (filled rs f b l x y z) e a = cc

  not_refused : {o : CheckOutcome} {r : refusals.Refusal} → ChecksInto run ls row (records_of before) o → o.answer ≡ refused r
      → Fit run ls row → AllStand turned (codes_in run ls) row → length ls ≤ length before → ⊥
  not_refused (false_list f) e fit a room = fit.list f
  not_refused (long_ribbon f l) e fit a room = omega (arith, fit.long)
  not_refused (no_colour f l b) e fit a room = b fit.bands
  not_refused (no_place f m) e fit a room = cc
  not_refused (short_buffer f b l) e fit a room = omega (arith, length-map before record_of_lem)
  not_refused (filled rs f b l x y z) e fit a room = cc

  stands_held : (r : Result Checked Refusal) → Fit run ls row → AllStand turned (codes_in run ls) row → length ls ≤ length before
      → ChecksRibbon run ls row before after r → (d : ℤ) × (r ≡ Ok (Held d))
  stands_held (Ok (Missing k)) fit a room p = absurd (missing_stands_not p.means refl a)
  stands_held (Ok (Held d)) fit a room p = (d, refl)
  stands_held (Err x) fit a room p = absurd (not_refused p.means refl fit a room)

pub passes_exactly : PassesExactly
passes_exactly =
    record {
      held_stands = λ run ls row before after d p. held_stands run ls row before after p.means refl;
      missing_stands_not = λ run ls row before after k p. missing_stands_not run ls row before after p.means refl;
      stands_held = λ run ls row before after r. stands_held run ls row before after r;
    }

-- The sheet: only the last case of the claim answers with one.
module _ (run ls name_run name_ls before after : List ℕ) (bytes saved : ℕ) where
  abbrev Is : Type 0
  Is = SheetIs run ls name_run name_ls before after bytes saved

  sheet_is : {o : SheetOutcome} → SheetsInto run ls name_run name_ls before o → o.answer ≡ written bytes saved
      → after ≡ o.after → Is
  sheet_is (sheet.false_list f) e a = cc
  sheet_is (sheet.short_buffer f x l) e a = cc
  sheet_is (sheet.filled {ribbon} {sheet = t} {saved = own} f x l) e a =
      let s : own ≡ saved = cc in
      let C = holds (is_fit_list run ls) (passes (codes_checked run ls) (λ h. f (inl h))) in
      let N = holds (is_fit_names (length ls) name_run name_ls)
      (passes (names_checked (length ls) name_run name_ls) (λ h. f (inr h))) in
      let laid = subst (λ (k : ℕ). Lays Chosen turned (codes_in run ls) ribbon k) s x.lays in
      record {
        ribbon = ribbon;
        sheet = t;
        is_long = cc;
        written = a;
        by_rule = laid;
        shows = x.shows;
        read_back =
            reads_back x.shows (each_map NameRule (Each Printed) (λ c r. r.2) (codes_in name_run name_ls) N.named)
            (each_map CodeRule (Each Band) (λ c r. r.2) (codes_in run ls) C.coded);
        at_most_twice = lays_twice turning (chosen_largest laid);
      }

pub sheet_is_true : SheetIsTrue
sheet_is_true run ls name_run name_ls before after wrote p =
    sheet_is run ls name_run name_ls before after wrote.bytes wrote.saved p.means refl refl
