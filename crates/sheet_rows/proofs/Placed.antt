-- The sheet as it is written row after row is the sheet of the rules, where place and number of places are shown for each
-- code, and a code's length is that of its bands. And all that the writing needs is there, since a code that has a place
-- lies on the ribbon.
use mathlib.Core.Path.{◌≡◌, refl, sym, ap, ap₂, ◌∙◌}
use mathlib.Core.Bool.{true}
use mathlib.Core.List.{List, [], ◌∷◌, ◌++◌}
use Prim.Native.Nat.{ℕ, suc, ◌≤◌, ◌<◌}
use native.Mathlib.Omega.{arith}
use lib.ListN.{length}
use Rattle.words.specs.Turn.{turned}
use Rattle.words.proofs.Deciding.{holds}
use Rattle.lists.specs.Runs.{codes_in, lengths}
use Rattle.lists.specs.Fit.{list_ok_lem, names_ok_lem}
use Rattle.lists.proofs.Runs.{codes_count, adds_up}
use Rattle.lists.proofs.Rules.{is_fit_list, is_fit_names}
use Rattle.greedy.specs.Dropping.{code_at}
use Rattle.greedy.specs.Layout.{ribbon_for}
use Rattle.parts.proofs.Cutting.{fit_size}
use Rattle.grammar.specs.Quoting.{field_text}
use Rattle.sheets.specs.Sheet.{row_text, sheet_heading, place_fields, code_row, code_rows}
use Rattle.sheets.specs.Answers.{sheet_for}
use Rattle.sheet_rows.specs.Shows.{nth_shown, ShowsCode, ShowsCodes}
use Rattle.sheet_rows.specs.Placed.{placed_row, placed_rows, placed_sheet, RowsThere}
use Rattle.sheet_rows.specs.declared.pieces.Shown.{Shown}
use Rattle.sheet_rows.proofs.Shows.{lies, code_long}

-- Row after row.
rows_are : (ribbon : List ℕ) (names cs : List (List ℕ)) (ss : List Shown) → length cs ≤ length ss
    → ((i : ℕ) → i < length cs → ShowsCode (code_at cs i) ribbon (nth_shown ss i))
    → placed_rows names (lengths cs) ss ribbon ≡ code_rows names cs ribbon
rows_are ribbon [] cs ss l e = refl
rows_are ribbon (n ∷ ns) [] ss l e = refl
rows_are ribbon (n ∷ ns) (c ∷ cs) [] l e = absurd (omega arith)
rows_are ribbon (n ∷ ns) (c ∷ cs) (s ∷ ss) l e =
    let f = e 0 (omega arith) in
    let row : placed_row n (length c) s ribbon ≡ code_row n c ribbon =
    ap₂ (λ p k. row_text (field_text n ∷ place_fields ribbon (length c) p k)) f.place f.count in
    ap₂ (λ (x : List ℕ) (y : List ℕ). x ++ y) row (rows_are ribbon ns cs ss (omega arith) (λ i h. e (suc i) (omega arith)))

module _ (run ls name_run name_ls : List ℕ) {ribbon : List ℕ} {ss : List Shown} (ok : list_ok_lem run ls ≡ true)
    (f : ShowsCodes run ls ribbon ss) where
  -- The sheet that is written is the sheet of the list,
  pub placed_is_sheet : ribbon ≡ ribbon_for turned (codes_in run ls)
      → placed_sheet (codes_in name_run name_ls) ls ss ribbon ≡ sheet_for run ls name_run name_ls
  placed_is_sheet laid =
      let C = holds (is_fit_list run ls) ok in
      let cs = codes_in run ls in
      let names = codes_in name_run name_ls in
      let l : length cs ≤ length ss = omega (arith, codes_count run ls, f.room, C.at_most) in
      let rows = rows_are ribbon names cs ss l (λ i h. f.each i (omega (arith, codes_count run ls))) in
      ap (λ n. placed_sheet names n ss ribbon) (sym C.as_long)
      ∙ ap (λ r. row_text sheet_heading ++ r) (rows ∙ ap (code_rows names cs) laid)

  -- and it can be written.
  pub rows_there : names_ok_lem (length ls) name_run name_ls ≡ true → RowsThere name_run name_ls ls ss ribbon
  rows_there names-ok =
      let C = holds (is_fit_list run ls) ok in
      let N = holds (is_fit_names (length ls) name_run name_ls) names-ok in
      record {
        few = C.at_most;
        one_each = N.one_each;
        names_there = omega (arith, adds_up name_run name_ls N.joined N.as_long);
        shown_there = omega (arith, f.room, C.at_most);
        short = λ i h. (fit_size C i h).1;
        on_ribbon = λ i h. omega (arith, lies (code_at (codes_in run ls) i) ribbon (nth_shown ss i).way (f.each i h).place, code_long C i);
      }
