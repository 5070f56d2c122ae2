-- The claim on a call that checks: ours meets it and nothing else does.
use mathlib.Core.Path.{◌≡◌, refl, sym, ap, ap₂, subst, ◌∙◌}
use mathlib.Core.Bool.{Bool, true, false, not}
use mathlib.Core.List.{List, [], ◌∷◌}
use Prim.Native.Nat.{ℕ, suc, ◌-◌, ◌≤◌, ◌<◌}
use native.Mathlib.Omega.{arith}
use lib.Dec.{eqb, ltb}
use lib.IntN.{ℤ, pos, negsuc}
use lib.ListN.{length}
use Rattle.words.specs.Tests.{pick}
use Rattle.words.specs.Turn.{turned}
use Rattle.words.specs.Lists.{Each}
use Rattle.words.specs.Place.{Place}
use Rattle.words.specs.Decides.{Decides, yes, no}
use Rattle.words.proofs.Turning.{turning}
use Rattle.words.proofs.Deciding.{passes, refuses, is_lt, is_le, not_lt}
use Rattle.words.proofs.Placing.{finds_ours, place_one}
use Rattle.lists.specs.Refusals.{whole, false_list_number, long_ribbon_number, unknown_colour_number, short_buffer_number, when, first_of}
use Rattle.lists.specs.Outcome.{outcome}
use Rattle.lists.specs.Runs.{codes_in, over}
use Rattle.lists.specs.Rules.{Band, FalseCodes}
use Rattle.lists.specs.Fit.{list_ok_lem, all_bands_lem}
use Rattle.lists.proofs.Rules.{is_false_codes, all_bands}
use Rattle.greedy.specs.Layout.{ribbon_for}
use Rattle.greedy.proofs.Claims.{lays_ours, lays_only}
use Rattle.checking.specs.Check.{Missing, none_missing, missing, IsMissing, all_held, lowest, missing_on}
use Rattle.checking.specs.Answers.{PlaceRecord, CheckOutcome, refused, missing_code, held, Difference, more, fewer}
use Rattle.checking.specs.Answers.{AreRecords, Fit, ChecksInto, false_list, long_ribbon, no_colour}
use Rattle.checking.specs.Answers.{no_place, short_buffer, filled, Checks, less, records_from, check_outcome}
use Rattle.checking.proofs.Check.{misses_ours, missing_one}

pub difference : (a b : ℕ) → Difference a b (less a b)
difference a b = by (is_le b a)
  where
    by : {t : Bool} → Decides (b ≤ a) t → Difference a b (pick t (pos (a - b)) (negsuc (b - a - 1)))
    by (yes l) = more {d = a - b} (omega arith)
    by (no n) = fewer {d = b - a - 1} (omega arith)

are_records : (i : ℕ) (cs : List (List ℕ)) (row : List ℕ) → AreRecords i cs row (records_from i cs row)
are_records i [] row = tt
are_records i (c ∷ cs) row = (refl, finds_ours turned 0 c row, are_records (suc i) cs row)

module _ (run ls row : List ℕ) (records : List PlaceRecord) where
  abbrev cs : List (List ℕ)
  cs = codes_in run ls

  -- ours by its tests: of the list, of the ribbon's length and bands, of missing codes, of the records
  abbrev by_tests : Bool → Bool → Bool → Missing → Bool → CheckOutcome
  by_tests bad long ok m short =
      let f = first_of (when bad false_list_number) (first_of (when long long_ribbon_number) (when (not ok) unknown_colour_number)) in
      elim (eqb f 0) [
        | false ↦ outcome (refused (whole f)) records
        | true ↦ elim m [
          | missing k ↦ outcome (missing_code k) records
          | none_missing ↦ elim short [
            | true ↦ outcome (refused (whole short_buffer_number)) records
            | false ↦
                outcome (held (less (length row) (length (ribbon_for turned cs)))) (over (records_from 0 cs row) records)
          ]
        ]
      ]

  as_tested : check_outcome run ls row records
      ≡ by_tests (not (list_ok_lem run ls)) (ltb 16384 (length row)) (all_bands_lem row)
      (missing_on turned cs row) (ltb (length records) (length ls))
  as_tested = refl

  -- Ours meets it.
  meets : {bad long ok short : Bool} {m : Missing} → Decides (FalseCodes run ls) bad → Decides (16384 < length row) long
      → Decides (Each Band row) ok → IsMissing turned cs row m → Decides (length records < length ls) short
      → ChecksInto run ls row records (by_tests bad long ok m short)
  meets (yes f) l b m s = false_list f
  meets (no fit) (yes l) b m s = long_ribbon fit l
  meets (no fit) (no l) (no b) m s = no_colour fit (not_lt l) b
  meets (no fit) (no l) (yes b) m s = go (record { list = fit; long = not_lt l; bands = b }) m s
    where
      go : {short : Bool} {m : Missing} → Fit run ls row → IsMissing turned cs row m
          → Decides (length records < length ls) short
          → ChecksInto run ls row records (by_tests false false true m short)
      go F (lowest k x f) s = no_place F (lowest k x f)
      go F (all_held a) (yes s) = short_buffer F a s
      go F (all_held a) (no s) =
          filled (records_from 0 cs row) F a (not_lt s) (lays_ours turned cs)
          (difference (length row) (length (ribbon_for turned cs))) (are_records 0 cs row)

pub checks_ours : Checks check_outcome
checks_ours run ls row records =
    meets run ls row records (is_false_codes run ls) (is_lt 16384 (length row)) (all_bands row)
    (misses_ours turned (codes_in run ls) row) (is_lt (length records) (length ls))

-- Nothing else does: each part of the claim has one outcome, and each case is the one of ours.
pub difference_one : {a b : ℕ} {d e : ℤ} → Difference a b d → Difference a b e → d ≡ e
difference_one (more x) (more y) = ap pos (omega arith)
difference_one (more x) (fewer y) = absurd (omega arith)
difference_one (fewer x) (more y) = absurd (omega arith)
difference_one (fewer x) (fewer y) = ap negsuc (omega arith)

records_one : (i : ℕ) (cs : List (List ℕ)) (row : List ℕ) (rs ts : List PlaceRecord) → AreRecords i cs row rs
    → AreRecords i cs row ts → rs ≡ ts
records_one i [] row [] (t ∷ ts) x y = elim y [ ]
records_one i [] row (r ∷ rs) ts x y = elim x [ ]
records_one i (c ∷ cs) row [] ts x y = elim x [ ]
records_one i (c ∷ cs) row (r ∷ rs) [] x y = elim y [ ]
records_one i [] row [] [] x y = refl
records_one i (c ∷ cs) row (r ∷ rs) (t ∷ ts) x y =
    ap₂ (λ (u : PlaceRecord) (us : List PlaceRecord). u ∷ us) (one r t x.0 y.0 (place_one turning x.1 y.1))
    (records_one (suc i) cs row rs ts x.2 y.2)
  where
    one : (u v : PlaceRecord) → u.code ≡ i → v.code ≡ i → u.place ≡ v.place → u ≡ v
    one u v e f g = ap₂ (λ (k : ℕ) (p : Place). record { code = k; place = p }) (e ∙ sym f) g

module _ (run ls row : List ℕ) (records : List PlaceRecord) where
  -- ours, where the tests answer so
  if_tests : (bad long ok short : Bool) (m : Missing) → not (list_ok_lem run ls) ≡ bad → ltb 16384 (length row) ≡ long
      → all_bands_lem row ≡ ok → missing_on turned (codes_in run ls) row ≡ m → ltb (length records) (length ls) ≡ short
      → check_outcome run ls row records ≡ by_tests run ls row records bad long ok m short
  if_tests bad long ok short m a b c d e = as_tested run ls row records ∙ rw (a, b, c, d, e)

  m_ours : IsMissing turned (codes_in run ls) row (missing_on turned (codes_in run ls) row)
  m_ours = misses_ours turned (codes_in run ls) row

  if_fit : Fit run ls row → (m : Missing) (short : Bool) → missing_on turned (codes_in run ls) row ≡ m
      → ltb (length records) (length ls) ≡ short
      → check_outcome run ls row records ≡ by_tests run ls row records false false true m short
  if_fit F m short d e =
      if_tests false false true short m (refuses (is_false_codes run ls) F.list)
      (refuses (is_lt 16384 (length row)) (λ h. omega (arith, F.long))) (passes (all_bands row) F.bands) d e

  pub into_only : {o : CheckOutcome} → ChecksInto run ls row records o → o ≡ check_outcome run ls row records
  into_only (false_list f) = sym (if_tests true _ _ _ _ (passes (is_false_codes run ls) f) refl refl refl refl)
  into_only (long_ribbon fit l) =
      let no-list = refuses (is_false_codes run ls) fit in
      sym (if_tests false true _ _ _ no-list (passes (is_lt 16384 (length row)) l) refl refl refl)
  into_only (no_colour fit l b) =
      let no-list = refuses (is_false_codes run ls) fit in
      let not-long = refuses (is_lt 16384 (length row)) (λ h. omega arith) in
      sym (if_tests false false false _ _ no-list not-long (refuses (all_bands row) b) refl refl)
  into_only (no_place {k} F x) = sym (if_fit F (missing k) _ (missing_one m_ours x) refl)
  into_only (short_buffer F a l) =
      let short = passes (is_lt (length records) (length ls)) l in
      sym (if_fit F none_missing true (missing_one m_ours (all_held a)) short)
  into_only (filled {ribbon} {saved} {d} rs F a l x y z) =
      let computed = ribbon_for turned (codes_in run ls) in
      let g : Difference (length row) (length computed) d =
      subst (λ (r : List ℕ). Difference (length row) (length r) d) (lays_only turned x).0 y in
      let e = difference_one g (difference (length row) (length computed)) in
      let f = records_one 0 (codes_in run ls) row rs _ z (are_records 0 (codes_in run ls) row) in
      let roomy = refuses (is_lt (length records) (length ls)) (λ h. omega arith) in
      ap₂ (λ (v : ℤ) (w : List PlaceRecord). outcome (held v) (over w records)) e f
      ∙ sym (if_fit F none_missing false (missing_one m_ours (all_held a)) roomy)

pub checks_only : (call : List ℕ → List ℕ → List ℕ → List PlaceRecord → CheckOutcome) → Checks call
    → (run ls row : List ℕ) (records : List PlaceRecord) → call run ls row records ≡ check_outcome run ls row records
checks_only call h run ls row records = into_only run ls row records (h run ls row records)
