-- The number that the reader gives to a row is the lowest fault of that row, and 0 if there is none.
-- A row is broken, or it has the fields that the scan finds and no others.
use mathlib.Core.Path.{◌≡◌, refl, sym, ap, subst, ◌∙◌}
use mathlib.Core.Logic.{◌≢◌}
use mathlib.Core.Bool.{Bool, true, false, not, true≢false}
use mathlib.Core.List.{List, [], ◌∷◌}
use Prim.Native.Nat.{ℕ, ◌≤◌, ◌<◌}
use native.Mathlib.Omega.{arith}
use lib.ListN.{length, get_or}
use Rattle.words.specs.Decides.{Decides, yes, no}
use Rattle.words.proofs.Deciding.{is_eq, not_lt}
use Rattle.lists.specs.Refusals.{broken_row_number, wrong_width_number, when, first_of}
use Rattle.lists.proofs.Refusals.{Least}
use Rattle.grammar.specs.Rows.{Row, row, first_row}
use Rattle.grammar.specs.Grammar.{RowAt, Broken, HeadFault, EntryFault, Lowest, RowFault, broken_row}
use Rattle.grammar.specs.Grammar.{wrong_width, in_fields}
use Rattle.grammar.specs.Orders.{head_fault_lem, entry_fault_lem, name_in, code_in, row_fault}
use Rattle.grammar.proofs.Scan.{scan_row}
use Rattle.grammar.proofs.Found.{found_row}
use Rattle.grammar.proofs.Table.{head_range, head_least, entry_range, entry_least}

-- the grammar is not ambiguous
same_fields : {s a b : List ℕ} {fs gs : List (List ℕ)} → RowAt s fs a → RowAt s gs b → fs ≡ gs
same_fields p q = ap (λ (r : Row). r.fields) (sym (scan_row p) ∙ scan_row q)

two : (fs : List (List ℕ)) → length fs ≡ 2 → fs ≡ get_or fs 0 [] ∷ (get_or fs 1 [] ∷ [])
two [] e = absurd (omega arith)
two (n ∷ []) e = absurd (omega arith)
two (n ∷ (c ∷ [])) e = refl
two (n ∷ (c ∷ (d ∷ fs))) e = absurd (omega arith)

-- what is asked of the fields of a heading, or of an entry after these names
pub record Asked : Type 1 where
  pub Fault : List (List ℕ) → ℕ → Type 0
  pub number : List ℕ → List ℕ → ℕ
  pub least : (n c : List ℕ) → Least (Fault (n ∷ (c ∷ []))) 0 (number n c)
  pub above : (fs : List (List ℕ)) (k : ℕ) → Fault fs k → 3 < k

abbrev pub of_heading : Asked
of_heading = record {
  Fault = HeadFault;
  number = head_fault_lem;
  least = head_least;
  above = λ fs k f. (head_range fs k f).0;
}

abbrev pub of_entry : List (List ℕ) → Asked
of_entry ns = record {
  Fault = EntryFault ns;
  number = entry_fault_lem ns;
  least = entry_least ns;
  above = λ fs k f. omega (arith, entry_range ns fs k f);
}

module _ (q : Asked) (s : List ℕ) where
  -- two fields at the head of s, with no fault
  abbrev pub Sound : List ℕ → List ℕ → List ℕ → Type 0
  Sound n c next = RowAt s (n ∷ (c ∷ [])) next × ((k : ℕ) → q.Fault (n ∷ (c ∷ [])) k → ⊥)

  abbrev F : ℕ → Type 0
  F = RowFault q.Fault s

  if_broken : Broken s → Least F 0 broken_row_number
  if_broken b = record { hit = λ h. broken_row b; low = λ k h f. low k f }
    where
      low : (k : ℕ) → F k → (0 < broken_row_number) × (broken_row_number ≤ k)
      low k (broken_row c) = omega arith
      low k (wrong_width a w) = absurd (b _ _ a)
      low k (in_fields a f) = absurd (b _ _ a)

  if_wide : {fs : List (List ℕ)} {next : List ℕ} → RowAt s fs next → length fs ≢ 2 → Least F 0 wrong_width_number
  if_wide a w = record { hit = λ h. wrong_width a w; low = λ k h f. low k f }
    where
      low : (k : ℕ) → F k → (0 < wrong_width_number) × (wrong_width_number ≤ k)
      low k (broken_row b) = absurd (b _ _ a)
      low k (wrong_width b v) = omega arith
      low k (in_fields {fields = fs} b f) = (omega arith, omega (arith, q.above fs k f))

  if_two : (n c next : List ℕ) → RowAt s (n ∷ (c ∷ [])) next → Least F 0 (q.number n c)
  if_two n c next a = record { hit = λ h. in_fields a ((q.least n c).hit h); low = λ k h f. low k f }
    where
      low : (k : ℕ) → F k → (0 < q.number n c) × (q.number n c ≤ k)
      low k (broken_row b) = absurd (b _ _ a)
      low k (wrong_width b v) = absurd (v (ap length (same_fields b a)))
      low k (in_fields b f) = (q.least n c).low k (omega arith) (rw (same_fields a b) f)

  -- what the tests of a row show: the lowest fault, or a sound row
  record Shown (n c next : List ℕ) (e : ℕ) : Type 0 where
    lowest : Least F 0 e
    sound : e ≡ 0 → Sound n c next

  by_tests : (g : Bool) {t : Bool} (fs : List (List ℕ)) (next : List ℕ) → first_row s ≡ row g fs next
      → (g ≡ true → RowAt s fs next) → Decides (length fs ≡ 2) t
      → let n = get_or fs 0 [] in
      let c = get_or fs 1 [] in
      Shown n c next (first_of (when (not g) broken_row_number) (first_of (when (not t) wrong_width_number) (q.number n c)))
  by_tests false fs next u a w = record {
    lowest = if_broken (λ gs m b. true≢false (ap (λ (r : Row). r.good) (sym (scan_row b) ∙ u)));
    sound = λ z. absurd (omega arith);
  }
  by_tests true fs next u a (no w) = record { lowest = if_wide (a refl) w; sound = λ z. absurd (omega arith) }
  by_tests true fs next u a (yes w) =
      let n = get_or fs 0 [] in
      let c = get_or fs 1 [] in
      let b : RowAt s (n ∷ (c ∷ [])) next = subst (λ (gs : List (List ℕ)). RowAt s gs next) (two fs w) (a refl) in
      record {
        lowest = if_two n c next b;
        sound = λ z. (b, λ k f. let l = (q.least n c).low k (omega arith) f in omega arith);
      }

  abbrev given : ℕ
  given = row_fault q.number (first_row s)

  shown : let r = first_row s in Shown (name_in r) (code_in r) r.rest given
  shown =
      let r = first_row s in
      by_tests r.good r.fields r.rest refl (found_row s) (is_eq (length r.fields) 2)

  -- 0 is given exactly to a sound row, and any other number exactly where it is the lowest fault
  pub sound_row : given ≡ 0 → let r = first_row s in Sound (name_in r) (code_in r) r.rest
  sound_row z = shown.sound z

  pub sound_none : {n c next : List ℕ} → Sound n c next → given ≡ 0
  sound_none {n} {c} (a, f) =
      let z : q.number n c ≤ 0 = not_lt (λ h. f (q.number n c) ((q.least n c).hit h)) in
      let e : q.number n c ≡ 0 = omega arith in
      ap (row_fault q.number) (scan_row a) ∙ e

  pub faulty : given ≢ 0 → Lowest F given
  faulty h = record {
    given = shown.lowest.hit (omega arith);
    none_lower = λ j l f. let m = shown.lowest.low j (omega arith) f in omega arith;
  }

  pub lowest_given : {k : ℕ} → Lowest F k → (0 < k) × (given ≡ k)
  lowest_given {k} l =
      let m = shown.lowest.low k (omega arith) l.given in
      let h : k ≤ given = not_lt (λ b. l.none_lower given b (shown.lowest.hit m.0)) in
      omega arith
