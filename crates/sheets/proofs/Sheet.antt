-- The text of a sheet: ours meets the claim, for every list with names of printed bytes, and nothing else does. A code
-- that stands on the ribbon has one place there, and as many bands from its start on are the code, or it turned. The
-- number of starts at which it stands is one number.
use mathlib.Core.Path.{◌≡◌, refl, sym, ap, ap₂, ◌∙◌}
use mathlib.Core.Bool.{true, true≢false}
use mathlib.Core.List.{List, [], ◌∷◌, ◌++◌}
use Prim.Native.Nat.{ℕ}
use native.Mathlib.Omega.{arith}
use lib.ListN.{length, take}
use lib.Seq.{take_at, drop_at}
use Rattle.words.specs.Lists.{Each}
use Rattle.words.specs.Turn.{turned}
use Rattle.words.specs.Stand.{StandsAt, StandsSomeWay}
use Rattle.words.specs.Place.{Place, IsPlace, is_given, is_turned, is_either, is_nowhere, found}
use Rattle.words.specs.Count.{IsCount, count_of}
use Rattle.words.proofs.Turning.{turning}
use Rattle.words.proofs.Deciding.{passes}
use Rattle.words.proofs.Placing.{finds_ours, place_one, found_exactly}
use Rattle.words.proofs.Counting.{counts_ours, count_is}
use Rattle.lists.specs.Rules.{Printed}
use Rattle.grammar.specs.Quoting.{field_text}
use Rattle.grammar.proofs.Quoting.{writes_ours, written_only}
use Rattle.greedy.specs.Rules.{AllStand}
use Rattle.greedy.specs.Layout.{ribbon_for}
use Rattle.greedy.proofs.Claims.{each_laid}
use Rattle.sheets.specs.Decimal.{decimal}
use Rattle.sheets.specs.Sheet.{as_given, as_turned, as_either, PlacesFor, so_often, RowFor, row_for, RowsFor, none, next}
use Rattle.sheets.specs.Sheet.{SheetFor, heading_first, row_text, sheet_heading, bands_at, place_fields, code_row}
use Rattle.sheets.specs.Sheet.{code_rows, sheet_text_lem}
use Rattle.sheets.proofs.Decimal.{digits_ours, digits_one}

-- as many bands as a word has, from a start on at which it stands, are the word
bands_stand : {c s : List ℕ} {n i : ℕ} → length c ≡ n → StandsAt c s i → bands_at s n i ≡ c
bands_stand {c} {n} {i} e h =
    let st = h.stands in
    ap (λ (r : List ℕ). bands_at r n i) st.parts
    ∙ ap (take n) (drop_at st.before (c ++ st.after) i h.start)
    ∙ take_at c st.after n e

module _ (name code ribbon : List ℕ) where
  -- our row of a code, by its place and how often it passes
  abbrev row_by : Place → ℕ → List ℕ
  row_by p k = row_text (field_text name ∷ place_fields ribbon (length code) p k)

  places_ours : PlacesFor code ribbon (decimal (count_of turned code ribbon))
  places_ours = so_often (counts_ours turned code ribbon) (digits_ours (count_of turned code ribbon))

  row_ours : Each Printed name → StandsSomeWay turned code ribbon → RowFor name code ribbon (code_row name code ribbon)
  row_ours p s = by (finds_ours turned 0 code ribbon) (passes (found_exactly turned code ribbon) s)
    where
      by : {q : Place} → IsPlace turned 0 code ribbon q → found q ≡ true
          → RowFor name code ribbon (row_by q (count_of turned code ribbon))
      by (is_given {i} l d h n) e =
          rw (bands_stand refl h) (row_for (writes_ours name p) (as_given (is_given l d h n) (digits_ours i)) places_ours)
      by (is_turned {i} l d h n) e =
          rw (bands_stand (turning.as_long code) h)
          (row_for (writes_ours name p) (as_turned (is_turned l d h n) (digits_ours i)) places_ours)
      by (is_either {i} l a h n) e =
          rw (bands_stand refl h) (row_for (writes_ours name p) (as_either (is_either l a h n) (digits_ours i)) places_ours)
      by (is_nowhere n) e = absurd (true≢false (sym e))

  -- what meets the claims on a place and on a count is ours, so this is our row
  row_by_lem : {p : Place} {k : ℕ} → IsPlace turned 0 code ribbon p → IsCount turned code ribbon k
      → code_row name code ribbon ≡ row_by p k
  row_by_lem p q = ap₂ (λ (a : Place) (b : ℕ). row_by a b) (place_one turning (finds_ours turned 0 code ribbon) p) (sym (count_is q))

  row_only : {t : List ℕ} → RowFor name code ribbon t → t ≡ code_row name code ribbon
  row_only (row_for w (as_given {i} (is_given l x h n) d) (so_often {n = k} q e)) =
      sym
      (row_by_lem (is_given l x h n) q
      ∙ rw (written_only w, bands_stand refl h, digits_one (digits_ours i) d, digits_one (digits_ours k) e))
  row_only (row_for w (as_turned {i} (is_turned l x h n) d) (so_often {n = k} q e)) =
      let same = bands_stand (turning.as_long code) h in
      sym
      (row_by_lem (is_turned l x h n) q
      ∙ rw (written_only w, same, digits_one (digits_ours i) d, digits_one (digits_ours k) e))
  row_only (row_for w (as_either {i} (is_either l a h n) d) (so_often {n = k} q e)) =
      sym
      (row_by_lem (is_either l a h n) q
      ∙ rw (written_only w, bands_stand refl h, digits_one (digits_ours i) d, digits_one (digits_ours k) e))

-- row after row
rows_ours : (names codes : List (List ℕ)) (ribbon : List ℕ) → length names ≡ length codes → Each (Each Printed) names
    → AllStand turned codes ribbon → RowsFor ribbon names codes (code_rows names codes ribbon)
rows_ours [] [] ribbon e p s = none
rows_ours [] (c ∷ cs) ribbon e p s = absurd (omega arith)
rows_ours (n ∷ ns) [] ribbon e p s = absurd (omega arith)
rows_ours (n ∷ ns) (c ∷ cs) ribbon e (p, ps) (s, ss) =
    next (row_ours n c ribbon p s) (rows_ours ns cs ribbon (omega arith) ps ss)

rows_only : {ribbon : List ℕ} {names codes : List (List ℕ)} {t : List ℕ} → RowsFor ribbon names codes t
    → t ≡ code_rows names codes ribbon
rows_only none = refl
rows_only {ribbon} (next {name} {code} r rs) =
    ap₂ (λ (a b : List ℕ). a ++ b) (row_only name code ribbon r) (rows_only rs)

-- The claim: ours meets it, and nothing else does.
pub sheet_ours : (names codes : List (List ℕ)) → length names ≡ length codes → Each (Each Printed) names
    → SheetFor names codes (ribbon_for turned codes) (sheet_text_lem names codes)
sheet_ours names codes e p =
    heading_first (rows_ours names codes (ribbon_for turned codes) e p (each_laid turned turning codes).all_stand)

pub sheet_only : {names codes : List (List ℕ)} {t : List ℕ} → SheetFor names codes (ribbon_for turned codes) t
    → t ≡ sheet_text_lem names codes
sheet_only (heading_first rs) = ap (λ (r : List ℕ). row_text sheet_heading ++ r) (rows_only rs)
