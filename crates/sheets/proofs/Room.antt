-- How much room suffices: a sheet has at most 17,181 bytes, 29 of the heading and 134 for each of at most 128 codes: 50
-- of the name, 6 of the way, 4 of the start, 64 of the bands, 4 of the number of places, four commas and CR LF.
use mathlib.Core.Path.{◌≡◌}
use mathlib.Core.Bool.{true}
use mathlib.Core.List.{List, [], ◌∷◌}
use Prim.Native.Nat.{ℕ, zero, suc, ◌+◌, ◌*◌, ◌≤◌, ◌<◌}
use native.Mathlib.Omega.{arith}
use lib.ListN.{length, length-append}
use borrow.Author.Tests.{le-ltb}
use Rattle.words.specs.Lists.{Each}
use Rattle.words.specs.Turn.{turned}
use Rattle.words.specs.Place.{is_given, is_turned, is_either}
use Rattle.words.proofs.Turning.{turning}
use Rattle.words.proofs.Standing.{stands_length}
use Rattle.words.proofs.Counting.{count_most}
use Rattle.words.proofs.Deciding.{holds}
use Rattle.lists.specs.Runs.{codes_in}
use Rattle.lists.specs.Rules.{CodeRule, NameRule}
use Rattle.lists.specs.Fit.{list_ok_lem, names_ok_lem}
use Rattle.lists.proofs.Rules.{is_fit_list, is_fit_names}
use Rattle.grammar.specs.Files.{quote}
use Rattle.grammar.specs.Grammar.{Inside, nothing, byte, doubled}
use Rattle.grammar.specs.Quoting.{Written, as_it_is, in_quotes}
use Rattle.greedy.specs.Layout.{saved_by}
use Rattle.lists.proofs.Runs.{codes_count}
use Rattle.greedy.proofs.Room.{ribbon_at_most}
use Rattle.sheets.specs.Decimal.{Digits, one_digit, one_more}
use Rattle.sheets.specs.Sheet.{PlaceFor, as_given, as_turned, as_either, PlacesFor, so_often, RowFor, row_for}
use Rattle.sheets.specs.Sheet.{RowsFor, none, next, SheetFor, heading_first}
use Rattle.sheets.specs.Answers.{written, sheet_for, sheet_outcome}
use Rattle.sheets.proofs.Answers.{shows_ours}

-- names: at most twice as long, and two quotes
inside_long : {w c : List ℕ} → Inside w c → length w ≤ 2 * length c
inside_long nothing = omega arith
inside_long (byte q i) = omega (arith, inside_long i)
inside_long (doubled i) = omega (arith, inside_long i)

written_long : {c t : List ℕ} → Written c t → length t ≤ 2 * length c + 2
written_long (as_it_is n) = omega arith
written_long (in_quotes {w} m i) = omega (arith, length-append w (quote ∷ []), inside_long i)

-- numbers: a number below a tenfold power of ten has one digit more than that power has noughts
abbrev tens : ℕ → ℕ
tens zero = 1
tens (suc n) = 10 * tens n

digits_long : {v : ℕ} {t : List ℕ} → Digits v t → (n : ℕ) → v < 10 * tens n → length t ≤ suc n
digits_long (one_digit l) n b = omega arith
digits_long (one_more p h l) zero b = absurd (omega arith)
digits_long (one_more {d} {t} p h l) (suc n) b =
    omega (arith, length-append t ((48 + d) ∷ []), digits_long h n (omega arith))

-- way, start and bands: a code of one band or more starts before the ribbon ends
place_long : {code ribbon way start bands : List ℕ} → PlaceFor code ribbon way start bands → CodeRule code
    → length ribbon ≤ 8192 → (length way ≤ 6) × (length start ≤ 4) × (length bands ≤ 64)
place_long (as_given (is_given {i} l x h n) d) r m =
    (omega arith, digits_long d 3 (omega (arith, h.start, stands_length h.stands, r.0)), r.1)
place_long {code} (as_turned (is_turned {i} l x h n) d) r m =
    let same = turning.as_long code in
    (omega arith, digits_long d 3 (omega (arith, h.start, stands_length h.stands, r.0)), omega (arith, r.1))
place_long (as_either (is_either {i} l a h n) d) r m =
    (omega arith, digits_long d 3 (omega (arith, h.start, stands_length h.stands, r.0)), r.1)

-- the number of places: at most as many as the ribbon has bands
places_long : {code ribbon places : List ℕ} → PlacesFor code ribbon places → CodeRule code → length ribbon ≤ 8192
    → length places ≤ 4
places_long {code} (so_often q d) r m =
    digits_long d 3 (omega (arith, count_most (turning.as_long code) r.0 q))

row_long : {name code ribbon t : List ℕ} → RowFor name code ribbon t → NameRule name → CodeRule code
    → length ribbon ≤ 8192 → length t ≤ 134
row_long (row_for {field} {way} {start} {bands} {places} w p k) n c m =
    let q = place_long p c m in
    simp length-append (omega (arith, written_long w, n.1, q.0, q.1, q.2, places_long k c m))

rows_long : {ribbon : List ℕ} {names codes : List (List ℕ)} {t : List ℕ} → RowsFor ribbon names codes t → Each NameRule names
    → Each CodeRule codes → length ribbon ≤ 8192 → length t ≤ 134 * length codes
rows_long none n c m = omega arith
rows_long (next {row} {rows} r rs) (n, ns) (c, cs) m =
    omega (arith, length-append row rows, row_long r n c m, rows_long rs ns cs m)

sheet_long : {names codes : List (List ℕ)} {ribbon t : List ℕ} → SheetFor names codes ribbon t → Each NameRule names
    → Each CodeRule codes → length ribbon ≤ 8192 → length t ≤ 29 + 134 * length codes
sheet_long (heading_first {rows} rs) n c m = omega (arith, rows_long rs n c m)

module _ (run ls name_run name_ls : List ℕ) (ok : list_ok_lem run ls ≡ true)
    (names-ok : names_ok_lem (length ls) name_run name_ls ≡ true) where
  pub sheet_at_most : length (sheet_for run ls name_run name_ls) ≤ 17181
  sheet_at_most =
      let C = holds (is_fit_list run ls) ok in
      let N = holds (is_fit_names (length ls) name_run name_ls) names-ok in
      let long = sheet_long (shows_ours run ls name_run name_ls N) N.named C.coded (ribbon_at_most run ls ok) in
      omega (arith, long, codes_count run ls, C.at_most)

  -- So every fit list with names is written, into a buffer of that length.
  pub accepts : (buffer : List ℕ) → 17181 ≤ length buffer
      → (sheet_outcome run ls name_run name_ls buffer).answer
      ≡ written (length (sheet_for run ls name_run name_ls)) (saved_by turned (codes_in run ls))
  accepts buffer room =
      let l = le-ltb (length buffer) (length (sheet_for run ls name_run name_ls)) (omega (arith, sheet_at_most)) in
      rw (sheet_outcome, ok, names-ok, l)
