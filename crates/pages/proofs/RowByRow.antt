-- The rows of a sheet one by one: the row of a code and those behind it are the rows from that code on.
use mathlib.Core.Path.{◌≡◌, refl, ap, ◌∙◌}
use mathlib.Core.List.{List, [], ◌∷◌, ◌++◌}
use Prim.Native.Nat.{ℕ, ◌+◌, ◌≤◌, ◌<◌}
use native.Mathlib.Numerals.{add-one}
use native.Mathlib.Omega.{arith}
use lib.ListN.{length, drop, drop_of_length-le, length-append}
use lib.Seq.{drop-cons}
use Rattle.lists.specs.Handed.{words_of}
use Rattle.lists.proofs.Runs.{codes_count}
use Rattle.sheet_rows.specs.Shows.{unset}
use Rattle.sheet_rows.specs.Placed.{placed_rows}
use Rattle.sheet_rows.specs.Sheets.{nth}
use Rattle.sheet_rows.specs.declared.rows.Rows.{Rows}
use Rattle.sheet_rows.specs.declared.pieces.Shown.{Shown}

no_rows : (names : List (List ℕ)) (ss : List Shown) (ribbon : List ℕ) → placed_rows names [] ss ribbon ≡ []
no_rows [] ss ribbon = refl
no_rows (n ∷ ns) ss ribbon = refl

module _ (r : Rows) where
  -- the rows from code i on
  abbrev pub rest : ℕ → List ℕ
  rest i = placed_rows (drop i (words_of r.names)) (drop i r.lengths.now) (drop i r.shown.now) r.ribbon.now

  pub none_left : (i : ℕ) → length r.lengths.now ≤ i → rest i ≡ []
  none_left i h =
      rw (drop_of_length-le r.lengths.now h) (no_rows (drop i (words_of r.names)) (drop i r.shown.now) r.ribbon.now)

  module _ (i : ℕ) (h : i < length r.lengths.now) where
    pub next : rest i ≡ nth r i ++ rest (i + 1)
    next =
        rw (
          add-one,
          drop-cons (words_of r.names) i [] (omega (arith, codes_count r.names.bytes.now r.names.sizes.now, r.there.one_each)),
          drop-cons r.lengths.now i 0 h,
          drop-cons r.shown.now i unset (omega (arith, r.there.shown_there)),
        )

    pub next_long : length (rest i) ≡ length (nth r i) + length (rest (i + 1))
    next_long = ap length next ∙ length-append (nth r i) (rest (i + 1))
