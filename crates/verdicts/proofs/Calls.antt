-- What a check promises follows from its tests: each answer is the one of the defined outcome, and what the outcome means is
-- the claim that ours meets. Records that are lent past those due stay, so a check with room for 128 answers for any more.
use mathlib.Core.Path.{◌≡◌, refl, sym, ap, ap₂, subst, ◌∙◌}
use mathlib.Core.Bool.{Bool, true, false}
use Rattle.std.proofs.Common.{Result, Ok, Err, IsOk, rules}
use mathlib.Core.List.{List, [], ◌∷◌, ◌++◌, map-append, append_assoc}
use Prim.Native.Nat.{ℕ, zero, suc, ◌≤◌, ◌<◌}
use native.Mathlib.Omega.{arith}
use lib.Dec.{eqb, ltb}
use lib.IntN.{ℤ}
use lib.ListN.{length, take, drop, length-map, length-append, take-append-drop}
use lib.Seq.{length-take-le, drop-append-le}
use borrow.Author.Tests.{ne_eqb, lt-ltb, le-ltb, ltb-true, ltb-false}
use Rattle.words.specs.Turn.{turned}
use Rattle.words.proofs.Deciding.{holds, passes}
use Rattle.lists.specs.Refusals.{whole, false_list_number, long_ribbon_number, short_buffer_number}
use Rattle.lists.specs.Answers.{number_of}
use Rattle.lists.specs.declared.numbers.Fault.{Fault}
use Rattle.lists.specs.declared.numbers.Refusal.{Refusal}
use Rattle.lists.proofs.Table.{some_number}
use Rattle.lists.specs.Outcome.{outcome}
use Rattle.lists.specs.Runs.{codes_in, over}
use Rattle.lists.specs.Fit.{list_ok_lem, all_bands_lem}
use Rattle.lists.proofs.Runs.{codes_count}
use Rattle.lists.proofs.Rules.{codes_checked, is_fit_list}
use Rattle.greedy.specs.Layout.{ribbon_for}
use Rattle.layout.specs.Laid.{Laid}
use Rattle.layout.specs.Calls.{LaysRibbon}
use Rattle.layout.proofs.Calls.{never_refused}
use Rattle.places.specs.declared.Place as declared
use Rattle.verdicts.specs.declared.Checked.{Checked}
use Rattle.verdicts.specs.declared.Checked.TheVariants.{Held}
use Rattle.checking.specs.Check.{none_missing, missing, missing_on}
use Rattle.checking.specs.Answers.{PlaceRecord, CheckAnswer, CheckOutcome, refused, missing_code, held, AreRecords, Fit}
use Rattle.checking.specs.Answers.{ChecksInto, false_list, long_ribbon, no_colour, no_place, short_buffer, filled}
use Rattle.checking.specs.Answers.{less, records_from, supplied_fault_lem, held_outcome, check_outcome}
use Rattle.places.specs.Calls.{record_of_lem, records_of, blanks, FindsPlaces}
use Rattle.verdicts.specs.Calls.{answer_of, ChecksRibbon, ChecksInRoom, ChecksAlone}
use Rattle.checking.proofs.Answers.{checks_ours, into_only}
use Rattle.places.proofs.Finding.{count_missing, none_is_missing, records_are}

-- The refusals of what is supplied, by their tests.
module _ (run ls row : List ℕ) where
  pub false_fault : list_ok_lem run ls ≡ false → supplied_fault_lem run ls row ≡ false_list_number
  false_fault e = rw (e, supplied_fault_lem)

  pub long_fault : list_ok_lem run ls ≡ true → 16384 < length row → supplied_fault_lem run ls row ≡ long_ribbon_number
  long_fault e l = rw (e, lt-ltb 16384 (length row) l, supplied_fault_lem)

  pub no_fault : list_ok_lem run ls ≡ true → length row ≤ 16384 → all_bands_lem row ≡ true → supplied_fault_lem run ls row ≡ 0
  no_fault ok l e = rw (ok, le-ltb 16384 (length row) l, e, supplied_fault_lem)

  -- where no refusal is due the list is fit and the ribbon not too long
  pub not_faulty : supplied_fault_lem run ls row ≡ 0 → (list_ok_lem run ls ≡ true) × (length row ≤ 16384)
  not_faulty e = by (list_ok_lem run ls) refl (ltb 16384 (length row)) refl
    where
      by : (t : Bool) → list_ok_lem run ls ≡ t → (l : Bool) → ltb 16384 (length row) ≡ l
          → (list_ok_lem run ls ≡ true) × (length row ≤ 16384)
      by false f l g = absurd (omega (arith, false_fault f, e))
      by true f true g = absurd (omega (arith, long_fault f (ltb-true 16384 (length row) g), e))
      by true f false g = (f, ltb-false 16384 (length row) g)

-- A fit list is laid out where there is room for any ribbon.
pub is_laid : (run ls before : List ℕ) {after : List ℕ} → list_ok_lem run ls ≡ true → 8192 ≤ length before
    → (r : Result Laid Refusal) → LaysRibbon run ls before after r → IsOk r
is_laid run ls before ok room (Ok laid) p = search rules
is_laid run ls before ok room (Err e) p = absurd (never_refused run ls before ok room p)

-- The outcome, by what is found.
module _ (run ls row : List ℕ) (records : List PlaceRecord) where
  refused_outcome : {f : ℕ} → supplied_fault_lem run ls row ≡ f → (f ≡ 0 → ⊥)
      → check_outcome run ls row records ≡ outcome (refused (whole f)) records
  refused_outcome {f} e n =
      let t : eqb (supplied_fault_lem run ls row) 0 ≡ false = ne_eqb (supplied_fault_lem run ls row) 0 (λ z. n (sym e ∙ z)) in
      rw (t, e, check_outcome)

  module _ (fit : supplied_fault_lem run ls row ≡ 0) where
    missing_outcome : {k : ℕ} → missing_on turned (codes_in run ls) row ≡ missing k
        → check_outcome run ls row records ≡ outcome (missing_code k) records
    missing_outcome m = rw (fit, m, check_outcome)

    module _ (m : missing_on turned (codes_in run ls) row ≡ none_missing) where
      short_outcome : length records < length ls
          → check_outcome run ls row records ≡ outcome (refused (whole short_buffer_number)) records
      short_outcome l = rw (fit, m, lt-ltb (length records) (length ls) l, check_outcome, held_outcome)

      held_outcome_lem : length ls ≤ length records → check_outcome run ls row records
          ≡ outcome (held (less (length row) (length (ribbon_for turned (codes_in run ls)))))
          (over (records_from 0 (codes_in run ls) row) records)
      held_outcome_lem l = rw (fit, m, le-ltb (length records) (length ls) l, check_outcome, held_outcome)

-- records written over others, as records of the claim
map-drop : (n : ℕ) (ps : List declared.Place) → records_of (drop n ps) ≡ drop n (records_of ps)
map-drop zero ps = refl
map-drop (suc n) [] = refl
map-drop (suc n) (p ∷ ps) = map-drop n ps

over_records : (ps before : List declared.Place) → records_of (over ps before) ≡ over (records_of ps) (records_of before)
over_records ps before =
    map-append record_of_lem ps (drop (length ps) before)
    ∙ ap (λ (rs : List PlaceRecord). records_of ps ++ rs)
    (map-drop (length ps) before ∙ ap (λ (n : ℕ). drop n (records_of before)) (sym (length-map ps record_of_lem)))

-- The promise, from the one outcome that is defined.
checks_so : {run ls row : List ℕ} {before after : List declared.Place} {r : Result Checked Refusal}
    → check_outcome run ls row (records_of before) ≡ outcome (answer_of r) (records_of after)
    → ChecksRibbon run ls row before after r
checks_so {run} {ls} {row} {before} e =
    record {
      answer = sym (ap (λ (o : CheckOutcome). o.answer) e);
      left = sym (ap (λ (o : CheckOutcome). o.after) e);
      means = subst (ChecksInto run ls row (records_of before)) e (checks_ours run ls row (records_of before));
    }

module _ (run ls row : List ℕ) (room : ℕ) where
  none_due : {r : Result Checked Refusal} {due : ℕ} {all : List declared.Place} → due ≡ 0
      → all ≡ blanks → ((before : List declared.Place) → length before ≡ room
      → check_outcome run ls row (records_of before) ≡ outcome (answer_of r) (records_of before))
      → ChecksInRoom run ls row room r due all
  none_due {r} {due} {all} z b f =
      record {
        few = omega arith;
        fits = omega arith;
        rest = ap (drop due) b;
        checks =
            λ before l.
            subst (λ (n : ℕ). ChecksRibbon run ls row before (over (take n all) before) r) (sym z) (checks_so (f before l));
      }

  pub refused_in_room : (f : Fault) {r : Result Checked Refusal} {due : ℕ} {all : List declared.Place}
      → number_of f ≡ supplied_fault_lem run ls row → answer_of r ≡ refused (whole (number_of f)) → due ≡ 0 → all ≡ blanks
      → ChecksInRoom run ls row room r due all
  refused_in_room f e a z b =
      none_due z b (λ before l.
      refused_outcome run ls row (records_of before) (sym e) (λ n. omega (arith, some_number f, n))
      ∙ ap (λ (x : CheckAnswer). outcome x (records_of before)) (sym a))

  module _ (fit : supplied_fault_lem run ls row ≡ 0) {count : ℕ} {places : List declared.Place} (p : FindsPlaces run ls row count places) where
    pub missing_in_room : {r : Result Checked Refusal} {due : ℕ} {all : List declared.Place} → count < length ls → answer_of r ≡ missing_code count
        → due ≡ 0 → all ≡ blanks → ChecksInRoom run ls row room r due all
    missing_in_room l a z b =
        none_due z b (λ before m.
        missing_outcome run ls row (records_of before) fit (count_missing p l)
        ∙ ap (λ (x : CheckAnswer). outcome x (records_of before)) (sym a))

    module _ (l : length ls ≤ count) where
      pub short_in_room : {r : Result Checked Refusal} {due : ℕ} {all : List declared.Place} → room < count → answer_of r ≡ refused (whole short_buffer_number)
          → due ≡ 0 → all ≡ blanks → ChecksInRoom run ls row room r due all
      short_in_room s a z b =
          none_due z b (λ before m.
          short_outcome run ls row (records_of before) fit (none_is_missing p l)
          (omega (arith, length-map before record_of_lem, m, s, p.within))
          ∙ ap (λ (x : CheckAnswer). outcome x (records_of before)) (sym a))

      pub held_in_room : {d : ℤ} → count ≤ room → d ≡ less (length row) (length (ribbon_for turned (codes_in run ls)))
          → ChecksInRoom run ls row room (Ok (Held d)) count places
      held_in_room {d} k e =
          record {
            few = omega (arith, p.within, (holds (is_fit_list run ls) (not_faulty run ls row fit).0).at_most);
            fits = k;
            rest = p.rest;
            checks =
                λ before m.
                checks_so (held_outcome_lem run ls row (records_of before) fit (none_is_missing p l)
                (omega (arith, length-map before record_of_lem, m, k, l))
                ∙ ap₂ (λ (x : CheckAnswer) (rs : List PlaceRecord). outcome x rs) (ap held (sym e))
                (ap (λ (rs : List PlaceRecord). over rs (records_of before)) (sym (records_are p l))
                ∙ sym (over_records (take count places) before)));
          }

-- Room for 128 is enough for any list, so what a check does there it does where more records are lent: those stay.
few_codes : {run ls row : List ℕ} → Fit run ls row → length ls ≤ 128
few_codes {run} {ls} F = (holds (is_fit_list run ls) (passes (codes_checked run ls) F.list)).at_most

are_counted : (i : ℕ) (cs : List (List ℕ)) (row : List ℕ) (rs : List PlaceRecord) → AreRecords i cs row rs → length rs ≡ length cs
are_counted i [] row (r ∷ rs) a = elim a [ ]
are_counted i (c ∷ cs) row [] a = elim a [ ]
are_counted i [] row [] a = refl
are_counted i (c ∷ cs) row (r ∷ rs) a = ap suc (are_counted (suc i) cs row rs a.2)

module _ {run ls row : List ℕ} (short rest : List PlaceRecord) (h : 128 ≤ length short) where
  more_lent : {x : CheckAnswer} {after : List PlaceRecord} → ChecksInto run ls row short (outcome x after)
      → ChecksInto run ls row (short ++ rest) (outcome x (after ++ rest))
  more_lent (false_list f) = false_list f
  more_lent (long_ribbon f l) = long_ribbon f l
  more_lent (no_colour f l b) = no_colour f l b
  more_lent (no_place F m) = no_place F m
  more_lent (short_buffer F a l) = absurd (omega (arith, few_codes F, l, h))
  more_lent (filled {d = v} rs F a l y d z) =
      let n : length rs ≤ length short = omega (arith, are_counted 0 (codes_in run ls) row rs z, codes_count run ls, l) in
      let e : over rs short ++ rest ≡ over rs (short ++ rest) =
      append_assoc rs (drop (length rs) short) rest
      ∙ ap (λ (ts : List PlaceRecord). rs ++ ts) (sym (drop-append-le (length rs) short rest n)) in
      subst (λ (ts : List PlaceRecord). ChecksInto run ls row (short ++ rest) (outcome (held v) ts)) (sym e)
      (filled rs F a (omega (arith, l, length-append short rest)) y d z)

more_records : {run ls row : List ℕ} {short after : List declared.Place} {r : Result Checked Refusal} (rest : List declared.Place)
    → 128 ≤ length short → ChecksRibbon run ls row short after r → ChecksRibbon run ls row (short ++ rest) (after ++ rest) r
more_records {run} {ls} {row} {short} {after} {r} rest h p =
    checks_so (sym (into_only run ls row (records_of (short ++ rest))
    (subst (λ (rs : List PlaceRecord). ChecksInto run ls row rs (outcome (answer_of r) (records_of (after ++ rest))))
    (sym (map-append record_of_lem short rest))
    (subst (λ (ts : List PlaceRecord). ChecksInto run ls row (records_of short ++ records_of rest) (outcome (answer_of r) ts))
    (sym (map-append record_of_lem after rest))
    (more_lent (records_of short) (records_of rest) (omega (arith, length-map short record_of_lem)) p.means)))))

pub checks_alone : {run ls row : List ℕ} {r : Result Checked Refusal} {due : ℕ} {all : List declared.Place} → ChecksInRoom run ls row 128 r due all
    → ChecksAlone run ls row r
checks_alone {run} {ls} {row} {r} {due} {all} p =
    record {
      after = λ before. over (take due all) (take 128 before) ++ drop 128 before;
      checks =
          λ before h.
          let l = length-take-le 128 before h in
          subst (λ (b : List declared.Place). ChecksRibbon run ls row b (over (take due all) (take 128 before) ++ drop 128 before) r)
          (take-append-drop 128 before)
          (more_records (drop 128 before) (omega (arith, l)) (p.checks (take 128 before) l));
    }
