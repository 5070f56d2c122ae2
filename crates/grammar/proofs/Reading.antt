-- The reader gives an answer that is due: what it has read has passed, so where it stops is the earliest faulty row.
use mathlib.Core.Path.{◌≡◌, ap}
use mathlib.Core.Logic.{◌≢◌}
use mathlib.Core.List.{List, [], ◌∷◌, ◌++◌, map-append}
use Prim.Native.Nat.{ℕ, zero, suc, ◌+◌, ◌<◌}
use native.Mathlib.Omega.{arith}
use lib.Dec.{eqb, eqb-suc-zero}
use lib.ListN.{length, length-append}
use Rattle.words.specs.Tests.{pick}
use Rattle.words.proofs.Deciding.{by_cases, is_eq, is_lt, not_lt}
use Rattle.lists.specs.Refusals.{empty_list_number}
use Rattle.grammar.specs.Files.{heading, orders, bad, add}
use Rattle.grammar.specs.Rows.{first_row}
use Rattle.grammar.specs.Grammar.{RowAt, Ends, line, file, none, next, Entry, names, codes, Passed, Due}
use Rattle.grammar.specs.Grammar.{no_bytes, in_heading, in_entry, empty_list, accepted, Reads, long_file}
use Rattle.grammar.specs.Grammar.{short_file}
use Rattle.grammar.specs.Orders.{name_in, code_in, head_fault_lem, entry_fault_lem, row_fault, rows_from, read_orders_lem}
use Rattle.grammar.proofs.Table.{is_empty, right_heading}
use Rattle.grammar.proofs.Faults.{of_heading, of_entry, sound_row, faulty}
use Rattle.grammar.proofs.Entries.{has_some, entry, passed_add}

-- a row takes some bytes, so the fuel suffices
pub shorter : {s next : List ℕ} {fs : List (List ℕ)} → RowAt s fs next → s ≢ [] → length next < length s
shorter {s} r n = by r.written r.parts r.ends
  where
    by : (w : List ℕ) {a next : List ℕ} → s ≡ w ++ a → Ends a next → length next < length s
    by w e line = omega (arith, simp length-append at (ap length e))
    by w e file = omega (arith, has_some s n)

module _ (s : List ℕ) where
  -- where no byte is left
  at_end : (es : List Entry) → Passed s es []
      → Due s (pick (eqb (length (codes es)) 0) (bad empty_list_number 0) (orders 0 0 (names es) (codes es)))
  at_end [] p = empty_list p
  at_end (e ∷ es) p = rw (eqb-suc-zero (length (codes es))) (accepted p (λ q. omega (arith, ap length q)))

  -- after one more entry
  one_more : (f : ℕ) (es : List Entry) (n c t : List ℕ)
      → (let fs = add es (entry n c) in Due s (rows_from f (2 + length fs) (names fs) (codes fs) t))
      → Due s (rows_from f (suc (2 + length es)) (add (names es) n) (add (codes es) c) t)
  one_more f es n c t d =
      let e = entry n c in
      let l : 2 + length (add es e) ≡ suc (2 + length es) = omega (arith, length-append es (e ∷ [])) in
      let a : names (add es e) ≡ add (names es) n = map-append (λ x. x.name) es (e ∷ []) in
      let b : codes (add es e) ≡ add (codes es) c = map-append (λ x. x.code) es (e ∷ []) in
      rw (a, b, l) at d

  -- from entries that passed on
  rows_due : (f : ℕ) {es : List Entry} {t : List ℕ} → Passed s es t → length t < f
      → Due s (rows_from f (2 + length es) (names es) (codes es) t)
  rows_due zero p h = absurd (omega arith)
  rows_due (suc f) {es} {t} p h =
      let asked = of_entry (names es) in
      let r = first_row t in
      by_cases (Due s) (is_empty t)
      (λ z. at_end es (rw z at p))
      (λ ne. by_cases (Due s) (is_eq (row_fault (entry_fault_lem (names es)) r) 0)
      (λ y.
      let a = sound_row asked t y in
      let rest = rows_due f (passed_add p ne a.0 a.1) (omega (arith, shorter a.0 ne)) in
      one_more f es (name_in r) (code_in r) r.rest rest)
      (λ y. in_entry p ne (faulty asked t y)))

  -- from the heading on
  heading_passed : {fs : List (List ℕ)} {t : List ℕ} → s ≢ [] → RowAt s fs t → fs ≡ heading → Passed s [] t
  heading_passed ne a e = record {
    begins = next ne (rw e at a) none;
    keeps = record { named = tt; coded = tt; once = tt; count = omega arith };
  }

  pub reads_ours : Reads s (read_orders_lem s)
  reads_ours =
      by_cases (Reads s) (is_lt 16384 (length s))
      long_file
      (λ l. short_file (not_lt l) (by_cases (Due s) (is_empty s)
      no_bytes
      (λ ne. by_cases (Due s) (is_eq (row_fault head_fault_lem (first_row s)) 0)
      (λ y.
      let a = sound_row of_heading s y in
      rows_due (suc (length s)) (heading_passed ne a.0 (right_heading a.1)) (omega (arith, shorter a.0 ne)))
      (λ y. in_heading ne (faulty of_heading s y)))))
