-- The claim on a call that writes a sheet: ours meets it and nothing else does. Ours goes by two tests, each of which
-- decides what the claim asks.
use mathlib.Core.Path.{◌≡◌, refl, sym, ap, ap₂, subst, ◌∙◌}
use mathlib.Core.Logic.{inr}
use mathlib.Core.Bool.{Bool, true, false, not, ◌&&◌, ◌||◌}
use mathlib.Core.List.{List}
use Prim.Native.Nat.{ℕ, ◌<◌}
use native.Mathlib.Omega.{arith}
use lib.Dec.{eqb, ltb}
use lib.ListN.{length}
use Rattle.words.specs.Turn.{turned}
use Rattle.words.specs.Lists.{Each}
use Rattle.words.specs.Decides.{Decides, yes, no}
use Rattle.words.proofs.Lists.{each_map}
use Rattle.words.proofs.Deciding.{passes, refuses, holds, decides_or, is_lt, not_lt}
use Rattle.lists.specs.Refusals.{whole, false_list_number, short_buffer_number, when, first_of}
use Rattle.lists.specs.Outcome.{outcome}
use Rattle.lists.specs.Runs.{codes_in, over}
use Rattle.lists.specs.Rules.{Printed, NameRule, FitNames}
use Rattle.lists.specs.Fit.{list_ok_lem, names_ok_lem}
use Rattle.lists.proofs.Rules.{is_false_codes, is_false_names, names_checked, is_fit_names}
use Rattle.greedy.specs.Layout.{ribbon_for, saved_by}
use Rattle.greedy.proofs.Claims.{lays_ours, lays_only}
use Rattle.lists.proofs.Runs.{codes_count}
use Rattle.sheets.specs.Sheet.{SheetFor}
use Rattle.sheets.specs.Answers.{SheetOutcome, refused, written, FalseList, Sheeted, SheetsInto, false_list}
use Rattle.sheets.specs.Answers.{short_buffer, filled, Sheets, sheet_for, sheet_outcome}
use Rattle.sheets.proofs.Sheet.{sheet_ours, sheet_only}

not_and : (a b : Bool) → not (a && b) ≡ (not a || not b)
not_and true b = refl
not_and false b = refl

module _ (run ls name_run name_ls : List ℕ) where
  abbrev cs : List (List ℕ)
  cs = codes_in run ls

  abbrev names : List (List ℕ)
  names = codes_in name_run name_ls

  abbrev sheet : List ℕ
  sheet = sheet_for run ls name_run name_ls

  abbrev bad : Bool
  bad = not (list_ok_lem run ls && names_ok_lem (length ls) name_run name_ls)

  is_false_list : Decides (FalseList run ls name_run name_ls) bad
  is_false_list =
      let either = not_and (list_ok_lem run ls) (names_ok_lem (length ls) name_run name_ls) in
      subst (Decides (FalseList run ls name_run name_ls)) (sym either)
      (decides_or (is_false_codes run ls) (is_false_names (length ls) name_run name_ls))

  -- names that keep the rules are one a code, and of printed bytes
  pub shows_ours : FitNames (length ls) name_run name_ls → SheetFor names cs (ribbon_for turned cs) sheet
  shows_ours F =
      let count : length names ≡ length cs = codes_count name_run name_ls ∙ F.one_each ∙ sym (codes_count run ls) in
      sheet_ours names cs count (each_map NameRule (Each Printed) (λ n r. r.2) names F.named)

  sheeted_ours : (FalseList run ls name_run name_ls → ⊥)
      → Sheeted run ls name_run name_ls (ribbon_for turned cs) sheet (saved_by turned cs)
  sheeted_ours fit =
      let ok = passes (names_checked (length ls) name_run name_ls) (λ f. fit (inr f)) in
      record {
        lays = lays_ours turned cs;
        shows = shows_ours (holds (is_fit_names (length ls) name_run name_ls) ok);
      }

  sheeted_only : {ribbon t : List ℕ} {saved : ℕ} → Sheeted run ls name_run name_ls ribbon t saved
      → (t ≡ sheet) × (saved ≡ saved_by turned cs)
  sheeted_only {t} x =
      let e = lays_only turned x.lays in
      (sheet_only (subst (λ (r : List ℕ). SheetFor names cs r t) e.0 x.shows), e.1)

  module _ (buffer : List ℕ) where
    -- ours by its tests: of the list with its names, and of the buffer
    abbrev pub by_tests : Bool → Bool → SheetOutcome
    by_tests false-one short =
        let f = first_of (when false-one false_list_number) (when short short_buffer_number) in
        elim (eqb f 0) [
          | true ↦ outcome (written (length sheet) (saved_by turned cs)) (over sheet buffer)
          | false ↦ outcome (refused (whole f)) buffer
        ]

    -- Ours meets it.
    meets : {b short : Bool} → Decides (FalseList run ls name_run name_ls) b
        → Decides (length buffer < length sheet) short
        → SheetsInto run ls name_run name_ls buffer (by_tests b short)
    meets (yes f) d = false_list f
    meets (no fit) (yes l) = short_buffer fit (sheeted_ours fit) l
    meets (no fit) (no l) = filled fit (sheeted_ours fit) (not_lt l)

    -- Nothing else does: each case is the one of ours.
    pub if_tests : {b short : Bool} → bad ≡ b → ltb (length buffer) (length sheet) ≡ short
        → sheet_outcome run ls name_run name_ls buffer ≡ by_tests b short
    if_tests p q = ap₂ (λ (b s : Bool). by_tests b s) p q

    into_only : {o : SheetOutcome} → SheetsInto run ls name_run name_ls buffer o
        → o ≡ sheet_outcome run ls name_run name_ls buffer
    into_only (false_list f) = sym (if_tests (passes is_false_list f) refl)
    into_only (short_buffer fit x l) =
        let e = ap length (sheeted_only x).0 in
        let short = passes (is_lt (length buffer) (length sheet)) (omega arith) in
        sym (if_tests (refuses is_false_list fit) short)
    into_only (filled fit x l) =
        let e = sheeted_only x in
        let room = refuses (is_lt (length buffer) (length sheet)) (λ m. omega (arith, ap length e.0)) in
        ap₂ (λ (t : List ℕ) (n : ℕ). outcome (written (length t) n) (over t buffer)) e.0 e.1
        ∙ sym (if_tests (refuses is_false_list fit) room)

pub sheets_ours : Sheets sheet_outcome
sheets_ours run ls name_run name_ls buffer =
    let enough = is_lt (length buffer) (length (sheet_for run ls name_run name_ls)) in
    meets run ls name_run name_ls buffer (is_false_list run ls name_run name_ls) enough

pub sheets_only : (call : List ℕ → List ℕ → List ℕ → List ℕ → List ℕ → SheetOutcome) → Sheets call
    → (run ls name_run name_ls buffer : List ℕ)
    → call run ls name_run name_ls buffer ≡ sheet_outcome run ls name_run name_ls buffer
sheets_only call h run ls name_run name_ls buffer =
    into_only run ls name_run name_ls buffer (h run ls name_run name_ls buffer)
