-- From grammar to scan: a row of the grammar is scanned as good, with its fields and what comes after it.
-- Each piece, read from its own mode, leaves the scan in a mode known beforehand.
use mathlib.Core.Path.{◌≡◌, refl, ap, ◌∙◌}
use mathlib.Core.Logic.{◌⊎◌, ◌≢◌}
use mathlib.Core.Bool.{true, false, ◌&&◌}
use mathlib.Core.List.{List, [], ◌∷◌, ◌++◌, append_assoc, append-nil}
use Prim.Native.Nat.{ℕ}
use native.Mathlib.Omega.{arith}
use lib.Dec.{eqb}
use lib.ListN.{get_or}
use Rattle.words.specs.Lists.{Each}
use Rattle.words.specs.Decides.{Decides}
use Rattle.words.proofs.Deciding.{passes, refuses, decides_or, is_eq}
use Rattle.lists.specs.Fit.{plain}
use Rattle.lists.specs.Rules.{Printed}
use Rattle.lists.proofs.Rules.{is_printed}
use Rattle.grammar.specs.Files.{quote, comma, cr, lf, add}
use Rattle.grammar.specs.Rows.{row, Outside, at_start, in_text, after_quote, outside, inside, takes_text}
use Rattle.grammar.specs.Rows.{quotable, row_from, first_row}
use Rattle.grammar.specs.Grammar.{Text, Quotable, Inside, nothing, byte, doubled, Field, unquoted, quoted}
use Rattle.grammar.specs.Grammar.{Fields, one, more, Ends, line, file, RowAt}

pub is_quotable : (b : ℕ) → Decides (Printed b ⊎ ((b ≡ cr) ⊎ (b ≡ lf))) (quotable b)
is_quotable b = decides_or (is_printed b) (decides_or (is_eq b cr) (is_eq b lf))

-- one step of the scan
module _ (fs : List (List ℕ)) (c : List ℕ) where
  step_byte : (b : ℕ) (s : List ℕ) → Quotable b → row_from inside fs c (b ∷ s) ≡ row_from inside fs (add c b) s
  step_byte b s q = cc (refuses (is_eq b quote) q.1, passes (is_quotable b) q.0)

  step_text : (m : Outside) (b : ℕ) (s : List ℕ) → takes_text m ≡ true → Text b
      → row_from (outside m) fs c (b ∷ s) ≡ row_from (outside in_text) fs (add c b) s
  step_text m b s t (p, n, k) =
      let d : b ≢ cr = λ e. omega arith in
      let f : (eqb b cr && eqb (get_or s 0 0) lf) ≡ false = rw (refuses (is_eq b cr) d) in
      let g : (plain b && takes_text m) ≡ true = rw (passes (is_printed b) p, t) in
      cc (refuses (is_eq b quote) n, refuses (is_eq b comma) k)

  step_end : (m : Outside) {s next : List ℕ} → Ends s next → row_from (outside m) fs c s ≡ row true (add fs c) next
  step_end m line = refl
  step_end m file = refl

-- the pieces of a field
scan_inside : {w d : List ℕ} → Inside w d → (fs : List (List ℕ)) (c s : List ℕ)
    → row_from inside fs c (w ++ (quote ∷ s)) ≡ row_from (outside after_quote) fs (c ++ d) s
scan_inside nothing fs c s = rw append-nil
scan_inside (byte {b} {w} {c = d} q i) fs c s =
    cc (step_byte fs c b (w ++ (quote ∷ s)) q, scan_inside i fs (add c b) s, append_assoc c (b ∷ []) d)
scan_inside (doubled {w} {c = d} i) fs c s = cc (scan_inside i fs (add c quote) s, append_assoc c (quote ∷ []) d)

scan_text : (w : List ℕ) → Each Text w → (fs : List (List ℕ)) (c s : List ℕ)
    → row_from (outside in_text) fs c (w ++ s) ≡ row_from (outside in_text) fs (c ++ w) s
scan_text [] h fs c s = rw append-nil
scan_text (b ∷ w) (t, h) fs c s =
    cc (step_text fs c in_text b (w ++ s) refl t, scan_text w h fs (add c b) s, append_assoc c (b ∷ []) w)

-- after a field the scan is outside quotes
record AfterField (fs : List (List ℕ)) (w c s : List ℕ) : Type 0 where
  mode : Outside
  comes : row_from (outside at_start) fs [] (w ++ s) ≡ row_from (outside mode) fs c s

scan_field : {w c : List ℕ} → Field w c → (fs : List (List ℕ)) (s : List ℕ) → AfterField fs w c s
scan_field (unquoted {c} t) fs s = bare c t
  where
    bare : (c : List ℕ) → Each Text c → AfterField fs c c s
    bare [] t = record { mode = at_start; comes = refl }
    bare (b ∷ c) (t, h) = record {
      mode = in_text;
      comes = step_text fs [] at_start b (c ++ s) refl t ∙ scan_text c h fs (b ∷ []) s;
    }
scan_field (quoted i) fs s = record { mode = after_quote; comes = rw append_assoc (scan_inside i fs [] s) }

-- a row
scan_fields : {w : List ℕ} {cs : List (List ℕ)} → Fields w cs → (fs : List (List ℕ)) {s next : List ℕ} → Ends s next
    → row_from (outside at_start) fs [] (w ++ s) ≡ row true (fs ++ cs) next
scan_fields (one {c} f) fs {s} e = let a = scan_field f fs s in a.comes ∙ step_end fs c a.mode e
scan_fields (more {w} {v} {c} {cs} f r) fs {s} e =
    cc (
      append_assoc w (comma ∷ v) s,
      (scan_field f fs (comma ∷ (v ++ s))).comes,
      scan_fields r (add fs c) e,
      append_assoc fs (c ∷ []) cs,
    )

pub scan_row : {s next : List ℕ} {fs : List (List ℕ)} → RowAt s fs next → first_row s ≡ row true fs next
scan_row r = ap first_row r.parts ∙ scan_fields r.is_row [] r.ends
