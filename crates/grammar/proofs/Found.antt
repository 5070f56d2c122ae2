-- From scan to grammar: a row that the scan calls good is a row of the grammar.
-- The parts of a field are read byte by byte, as the scan's modes see them; a whole field follows.
use mathlib.Core.Path.{◌≡◌, refl, sym, ap}
use mathlib.Core.Bool.{true, false, ◌&&◌, true≢false}
use mathlib.Core.List.{List, [], ◌∷◌, ◌++◌, append_assoc, append-nil}
use Prim.Native.Nat.{ℕ}
use native.Mathlib.Omega.{arith}
use lib.Dec.{eqb}
use lib.ListN.{get_or, drop}
use Rattle.words.specs.Lists.{Each}
use Rattle.words.specs.Decides.{Decides}
use Rattle.words.proofs.Deciding.{decide, by_cases, decides_and, is_eq}
use Rattle.lists.specs.Fit.{plain}
use Rattle.lists.proofs.Rules.{is_printed}
use Rattle.grammar.specs.Files.{quote, comma, cr, lf, add}
use Rattle.grammar.specs.Rows.{Row, row, broken, Outside, at_start, in_text, after_quote, Mode, outside, inside}
use Rattle.grammar.specs.Rows.{takes_text, quotable, line_end, row_from, first_row}
use Rattle.grammar.specs.Grammar.{Text, Quotable, Inside, nothing, byte, doubled, Field, unquoted, quoted, one}
use Rattle.grammar.specs.Grammar.{more, Ends, line, file, RowAt}
use Rattle.grammar.proofs.Scan.{is_quotable}

-- what is left of a field, as the scan sees it from a mode, and what it adds to the content
data Part : Mode → List ℕ → List ℕ → Type 0 where
  stop : (m : Outside) → Part (outside m) [] []
  text : {m : Outside} {b : ℕ} {w d : List ℕ} → takes_text m ≡ true → Text b → Part (outside in_text) w d
      → Part (outside m) (b ∷ w) (b ∷ d)
  open_quote : {w d : List ℕ} → Part inside w d → Part (outside at_start) (quote ∷ w) d
  inner : {b : ℕ} {w d : List ℕ} → Quotable b → Part inside w d → Part inside (b ∷ w) (b ∷ d)
  close_quote : {w d : List ℕ} → Part (outside after_quote) w d → Part inside (quote ∷ w) d
  second : {w d : List ℕ} → Part inside w d → Part (outside after_quote) (quote ∷ w) (quote ∷ d)

bare : {w d : List ℕ} → Part (outside in_text) w d → (w ≡ d) × Each Text d
bare (stop m) = (refl, tt)
bare (text {b} e t r) = (ap (λ x. b ∷ x) (bare r).0, (t, (bare r).1))

record Enclosed (w d : List ℕ) : Type 0 where
  within : List ℕ
  parts : w ≡ within ++ (quote ∷ [])
  is_inside : Inside within d

enclosed : {w d : List ℕ} → Part inside w d → Enclosed w d
enclosed (inner {b} q r) =
    let e = enclosed r in
    record { within = b ∷ e.within; parts = ap (λ x. b ∷ x) e.parts; is_inside = byte q e.is_inside }
enclosed (close_quote (stop m)) = record { within = []; parts = refl; is_inside = nothing }
enclosed (close_quote (text e t r)) = absurd (true≢false (sym e))
enclosed (close_quote (second r)) =
    let e = enclosed r in
    record {
      within = quote ∷ (quote ∷ e.within);
      parts = ap (λ x. quote ∷ (quote ∷ x)) e.parts;
      is_inside = doubled e.is_inside;
    }

field : {w d : List ℕ} → Part (outside at_start) w d → Field w d
field (stop m) = unquoted tt
field (text {b} {d} e t r) = rw (bare r).0 (unquoted {c = b ∷ d} (t, (bare r).1))
field (open_quote r) = let e = enclosed r in rw e.parts (quoted e.is_inside)

-- what is left of a row
data Tail (m : Mode) : List ℕ → List ℕ → List (List ℕ) → List ℕ → Type 0 where
  last : {w d s next : List ℕ} → Part m w d → Ends s next → Tail m (w ++ s) d [] next
  onward : {w d s next : List ℕ} {ds : List (List ℕ)} → Part m w d → RowAt s ds next
      → Tail m (w ++ (comma ∷ s)) d ds next

tail_row : {s d next : List ℕ} {ds : List (List ℕ)} → Tail (outside at_start) s d ds next → RowAt s (d ∷ ds) next
tail_row (last {w} {s = r} p e) = record { written = w; after = r; parts = refl; is_row = one (field p); ends = e }
tail_row (onward {w} {s = r} p a) = record {
  written = w ++ (comma ∷ a.written);
  after = a.after;
  parts = cc (a.parts, append_assoc w (comma ∷ a.written) a.after);
  is_row = more (field p) a.is_row;
  ends = a.ends;
}

tail_move : {m k : Mode} {b : ℕ} {s d d' next : List ℕ} {ds : List (List ℕ)}
    → ((w : List ℕ) → Part k w d → Part m (b ∷ w) d') → Tail k s d ds next → Tail m (b ∷ s) d' ds next
tail_move f (last {w} p e) = last (f w p) e
tail_move f (onward {w} p a) = onward (f w p) a

-- what the scan says of the rest
record Found (m : Mode) (fs : List (List ℕ)) (c s : List ℕ) (r : Row) : Type 0 where
  adds : List ℕ
  others : List (List ℕ)
  tail : Tail m s adds others r.rest
  all : r.fields ≡ fs ++ ((c ++ adds) ∷ others)

-- a byte that adds x to the content
move : {m k : Mode} {b : ℕ} {fs : List (List ℕ)} {c s : List ℕ} {r : Row} (x : List ℕ)
    → ((d w : List ℕ) → Part k w d → Part m (b ∷ w) (x ++ d)) → Found k fs (c ++ x) s r → Found m fs c (b ∷ s) r
move {c} x f h = record {
  adds = x ++ h.adds;
  others = h.others;
  tail = tail_move (f h.adds) h.tail;
  all = cc (h.all, append_assoc c x h.adds);
}

-- a byte that adds nothing
pass : {m k : Mode} {b : ℕ} {fs : List (List ℕ)} {c s : List ℕ} {r : Row}
    → ((d w : List ℕ) → Part k w d → Part m (b ∷ w) d) → Found k fs c s r → Found m fs c (b ∷ s) r
pass f h = record {
  adds = h.adds;
  others = h.others;
  tail = tail_move (f h.adds) h.tail;
  all = h.all;
}

new_field : (m : Outside) {fs : List (List ℕ)} {c s : List ℕ} {r : Row} → Found (outside at_start) (add fs c) [] s r
    → Found (outside m) fs c (comma ∷ s) r
new_field m {fs} {c} h = record {
  adds = [];
  others = h.adds ∷ h.others;
  tail = onward (stop m) (tail_row h.tail);
  all = cc (h.all, append_assoc fs (c ∷ []) (h.adds ∷ h.others), append-nil c);
}

row_end : (m : Outside) {fs : List (List ℕ)} {c s next : List ℕ} → Ends s next
    → Found (outside m) fs c s (row true (add fs c) next)
row_end m {c} e = record { adds = []; others = []; tail = last (stop m) e; all = cc (append-nil c) }

line_ends : (b : ℕ) (s : List ℕ) → (b ≡ cr) × (get_or s 0 0 ≡ lf) → Ends (b ∷ s) (drop 1 s)
line_ends b [] h = absurd (omega arith)
line_ends b (a ∷ s) h = rw (h.0, h.1) line

takes_text_lem : (m : Outside) → Decides (takes_text m ≡ true) (takes_text m)
takes_text_lem m = decide (takes_text m) (λ e. e) (λ e. e)

-- The scan's own tree of tests, leaf by leaf: what it says of a byte and the rest, if it is right about the rest.
abbrev Right : Mode → List (List ℕ) → List ℕ → List ℕ → Row → Type 0
Right m fs c s r = r.good ≡ true → Found m fs c s r

never_good : {m : Mode} {fs : List (List ℕ)} {c s : List ℕ} → Right m fs c s broken
never_good g = absurd (true≢false (sym g))

module _ (fs : List (List ℕ)) (c : List ℕ) (b : ℕ) (s : List ℕ) where
  right_inside : {closed on : Row} → Right (outside after_quote) fs c s closed → Right inside fs (add c b) s on
      → Right inside fs c (b ∷ s)
      (elim (eqb b quote) [ true ↦ closed | false ↦ elim (quotable b) [ true ↦ on | false ↦ broken ] ])
  right_inside f h =
      let R = Right inside fs c (b ∷ s) in
      by_cases R (is_eq b quote)
      (λ q g. pass (λ d w p. rw q (close_quote p)) (f g))
      (λ q. by_cases R (is_quotable b)
      (λ t g. move (b ∷ []) (λ d w p. inner (t, q) p) (h g))
      (λ t. never_good))

  -- a quote outside quotes opens a field, or is the second of two
  right_quote : (m : Outside) {opened again : Row} → b ≡ quote → Right inside fs c s opened
      → Right inside fs (add c quote) s again
      → Right (outside m) fs c (b ∷ s) (elim m [ at_start ↦ opened | in_text ↦ broken | after_quote ↦ again ])
  right_quote at_start q f h g = pass (λ d w p. rw q (open_quote p)) (f g)
  right_quote in_text q f h g = never_good g
  right_quote after_quote q f h g = move (quote ∷ []) (λ d w p. rw q (second p)) (h g)

  right_outside : (m : Outside) {start quoted on : Row} → Right (outside at_start) (add fs c) [] s start
      → (b ≡ quote → Right (outside m) fs c (b ∷ s) quoted) → Right (outside in_text) fs (add c b) s on
      → Right (outside m) fs c (b ∷ s)
      (elim (eqb b comma) [
        | true ↦ start
        | false ↦ elim (line_end (b ∷ s)) [
          | true ↦ row true (add fs c) (drop 1 s)
          | false ↦ elim (eqb b quote) [
            | true ↦ quoted
            | false ↦ elim (plain b && takes_text m) [ true ↦ on | false ↦ broken ]
          ]
        ]
      ])
  right_outside m f q h =
      let R = Right (outside m) fs c (b ∷ s) in
      by_cases R (is_eq b comma)
      (λ k g. rw k (new_field m (f g)))
      (λ k. by_cases R (decides_and (is_eq b cr) (is_eq (get_or s 0 0) lf))
      (λ l g. row_end m (line_ends b s l))
      (λ l. by_cases R (is_eq b quote)
      q
      (λ n. by_cases R (decides_and (is_printed b) (takes_text_lem m))
      (λ t g. move (b ∷ []) (λ d w r. text t.1 (t.0, n, k) r) (h g))
      (λ t. never_good))))

found : (s : List ℕ) (m : Mode) (fs : List (List ℕ)) (c : List ℕ) → Right m fs c s (row_from m fs c s)
found [] inside fs c = never_good
found [] (outside m) fs c = λ g. row_end m file
found (b ∷ s) inside fs c = right_inside fs c b s (found s (outside after_quote) fs c) (found s inside fs (add c b))
found (b ∷ s) (outside m) fs c =
    right_outside fs c b s m
    (found s (outside at_start) (add fs c) [])
    (λ q. right_quote fs c b s m q (found s inside fs c) (found s inside fs (add c quote)))
    (found s (outside in_text) fs (add c b))

pub found_row : (s : List ℕ) → (first_row s).good ≡ true → RowAt s (first_row s).fields (first_row s).rest
found_row s g = let h = found s (outside at_start) [] [] g in rw h.all (tail_row h.tail)
