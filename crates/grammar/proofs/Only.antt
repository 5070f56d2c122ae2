-- No other answer is due: the reader passes the rows that passed, and stops at the fault or at the end that is named.
use mathlib.Core.Path.{◌≡◌, refl, ap, ◌∙◌}
use mathlib.Core.Logic.{inl, inr, ◌≢◌}
use mathlib.Core.Bool.{true, false}
use mathlib.Core.List.{List, [], ◌∷◌, ◌++◌, append_assoc, append-nil}
use Prim.Native.Nat.{ℕ, zero, suc, ◌+◌, ◌≤◌}
use native.Mathlib.Omega.{arith}
use lib.Dec.{eqb, ltb, eqb-suc-zero}
use lib.ListN.{length, length-append}
use Rattle.words.specs.Tests.{pick}
use Rattle.words.specs.Lists.{In, Each, Once}
use Rattle.words.proofs.Lists.{in_either}
use Rattle.words.proofs.Deciding.{passes, refuses, is_eq, is_lt}
use Rattle.lists.specs.Refusals.{empty_list_number}
use Rattle.lists.specs.Rules.{NameRule, CodeRule}
use Rattle.grammar.specs.Files.{heading, Orders, orders, bad, add}
use Rattle.grammar.specs.Rows.{Row, first_row}
use Rattle.grammar.specs.Grammar.{RowAt, Rows, none, next, Entry, names, codes, fields_of, HeadFault}
use Rattle.grammar.specs.Grammar.{wrong_heading, EntryFault, RowFault, Lowest, Passed, Due, no_bytes, in_heading}
use Rattle.grammar.specs.Grammar.{in_entry, empty_list, accepted, Reads, long_file, short_file}
use Rattle.grammar.specs.Orders.{name_in, code_in, head_fault_lem, entry_fault_lem, row_fault, rows_from, read_orders_lem}
use Rattle.grammar.proofs.Scan.{scan_row}
use Rattle.grammar.proofs.Table.{is_empty}
use Rattle.grammar.proofs.Faults.{of_heading, of_entry, sound_none, lowest_given}
use Rattle.grammar.proofs.Entries.{faultless, has_some}
use Rattle.grammar.proofs.Reading.{shorter}

-- one row: a sound one, a faulty one
rows_next : (f k : ℕ) (ns cs : List (List ℕ)) {t n c u : List ℕ} → t ≢ [] → RowAt t (n ∷ (c ∷ [])) u
    → ((j : ℕ) → EntryFault ns (n ∷ (c ∷ [])) j → ⊥)
    → rows_from (suc f) k ns cs t ≡ rows_from f (suc k) (add ns n) (add cs c) u
rows_next f k ns cs {t} {n} {c} {u} ne a q =
    let with_row : Row → Orders = λ r. rows_from f (suc k) (add ns (name_in r)) (add cs (code_in r)) r.rest in
    let z : eqb (length t) 0 ≡ false = refuses (is_empty t) ne in
    let x = row_fault (entry_fault_lem ns) (first_row t) in
    let y : eqb x 0 ≡ true = passes (is_eq x 0) (sound_none (of_entry ns) t (a, q)) in
    let v : rows_from (suc f) k ns cs t ≡ with_row (first_row t) = cc in
    v ∙ ap with_row (scan_row a)

rows_fault : (f k : ℕ) (ns cs : List (List ℕ)) {t : List ℕ} {e : ℕ} → t ≢ [] → Lowest (RowFault (EntryFault ns) t) e
    → rows_from (suc f) k ns cs t ≡ bad e k
rows_fault f k ns cs {t} {e} ne l =
    let z : eqb (length t) 0 ≡ false = refuses (is_empty t) ne in
    let x = row_fault (entry_fault_lem ns) (first_row t) in
    let g = lowest_given (of_entry ns) t l in
    let u : x ≡ e = g.1 in
    let y : eqb x 0 ≡ false = refuses (is_eq x 0) (λ w. omega arith) in
    cc

-- many rows: how far the reader has come, when x is its answer
record Reached (x : Orders) (k : ℕ) (ns cs : List (List ℕ)) (t : List ℕ) : Type 0 where
  fuel : ℕ
  comes : x ≡ rows_from (suc fuel) k ns cs t
  enough : length t ≤ fuel

reached_next : {x : Orders} {k : ℕ} {ns cs : List (List ℕ)} {t n c u : List ℕ} → Reached x k ns cs t → t ≢ []
    → RowAt t (n ∷ (c ∷ [])) u → ((j : ℕ) → EntryFault ns (n ∷ (c ∷ [])) j → ⊥)
    → Reached x (suc k) (add ns n) (add cs c) u
reached_next {x} {k} {ns} {cs} {t} {n} {c} {u} r ne a q = go r.fuel r.comes r.enough
  where
    go : (f : ℕ) → x ≡ rows_from (suc f) k ns cs t → length t ≤ f → Reached x (suc k) (add ns n) (add cs c) u
    go zero e l = absurd (omega (arith, has_some t ne))
    go (suc f) e l = record {
      fuel = f;
      comes = e ∙ rows_next (suc f) k ns cs ne a q;
      enough = omega (arith, shorter a ne);
    }

-- no name is in both
abbrev Apart : List (List ℕ) → List (List ℕ) → Type 0
Apart ns ms = (x : List ℕ) → In x ns → In x ms → ⊥

apart_add : (ns : List (List ℕ)) (n : List ℕ) (ms : List (List ℕ)) → Apart ns (n ∷ ms) → (In n ms → ⊥)
    → Apart (add ns n) ms
apart_add ns n ms a o x i j =
    elim (in_either x ns (n ∷ []) i) [ inl k ↦ a x k (inr j) | inr (inl e) ↦ o (rw e at j) | inr (inr k) ↦ k ]

reached_all : {x : Orders} (es : List Entry) {k : ℕ} {ns cs : List (List ℕ)} {t u : List ℕ} → Reached x k ns cs t
    → Rows t (fields_of es) u → Each NameRule (names es) → Each CodeRule (codes es) → Once (names es)
    → Apart ns (names es) → length ns + length es ≤ 128 → Reached x (k + length es) (ns ++ names es) (cs ++ codes es) u
reached_all [] {k} {ns} {cs} r none a b o p l =
    let z : k + 0 ≡ k = omega arith in
    rw (append-nil ns, append-nil cs, z) r
reached_all (e ∷ es) {k} {ns} {cs} r (next ne at rs) (a, h) (b, g) (o, w) p l =
    let n = e.name in
    let c = e.code in
    let z : suc k + length es ≡ k + suc (length es) = omega arith in
    let room : length (add ns n) + length es ≤ 128 = omega (arith, length-append ns (n ∷ [])) in
    let r' = reached_next r ne at (faultless a b (λ i. p n i (inl refl)) (omega arith)) in
    rw (append_assoc ns (n ∷ []) (names es), append_assoc cs (c ∷ []) (codes es), z) at
    (reached_all es r' rs h g w (apart_add ns n (names es) p o) room)

-- a whole file
module _ (s : List ℕ) (short : length s ≤ 16384) where
  fits : ltb 16384 (length s) ≡ false
  fits = refuses (is_lt 16384 (length s)) (λ h. omega arith)

  head_next : {u : List ℕ} → s ≢ [] → RowAt s heading u → read_orders_lem s ≡ rows_from (suc (length s)) 2 [] [] u
  head_next ne a =
      let with_row : Row → Orders = λ r. rows_from (suc (length s)) 2 [] [] r.rest in
      let f : ltb 16384 (length s) ≡ false = fits in
      let z : eqb (length s) 0 ≡ false = refuses (is_empty s) ne in
      let x = row_fault head_fault_lem (first_row s) in
      let y : eqb x 0 ≡ true = passes (is_eq x 0) (sound_none of_heading s (a, right)) in
      let v : read_orders_lem s ≡ with_row (first_row s) = cc in
      v ∙ ap with_row (scan_row a)
    where
      right : (k : ℕ) → HeadFault heading k → ⊥
      right k (wrong_heading q) = q refl

  head_fault : {k : ℕ} → s ≢ [] → Lowest (RowFault HeadFault s) k → read_orders_lem s ≡ bad k 1
  head_fault {k} ne l =
      let f : ltb 16384 (length s) ≡ false = fits in
      let z : eqb (length s) 0 ≡ false = refuses (is_empty s) ne in
      let x = row_fault head_fault_lem (first_row s) in
      let g = lowest_given of_heading s l in
      let u : x ≡ k = g.1 in
      let y : eqb x 0 ≡ false = refuses (is_eq x 0) (λ w. omega arith) in
      cc

  reached : {es : List Entry} {t : List ℕ} → Passed s es t
      → Reached (read_orders_lem s) (2 + length es) (names es) (codes es) t
  reached {es} {t} p = from p.begins
    where
      from : Rows s (heading ∷ fields_of es) t → Reached (read_orders_lem s) (2 + length es) (names es) (codes es) t
      from (next {after = u} ne a rs) =
          let start : Reached (read_orders_lem s) 2 [] [] u = record {
            fuel = length s;
            comes = head_next ne a;
            enough = omega (arith, shorter a ne);
          } in
          let r = p.keeps in
          reached_all es start rs r.named r.coded r.once (λ x i j. i) (omega (arith, r.count))

  due_only : {x : Orders} → Due s x → read_orders_lem s ≡ x
  due_only (no_bytes e) = rw e
  due_only (in_heading n l) = head_fault n l
  due_only (in_entry {es} p n l) =
      let r = reached p in
      r.comes ∙ rows_fault r.fuel (2 + length es) (names es) (codes es) n l
  due_only (empty_list p) = (reached p).comes
  due_only (accepted {es} p n) = (reached p).comes ∙ some es n
    where
      some : (es : List Entry) → es ≢ [] → let x = orders 0 0 (names es) (codes es) in
          pick (eqb (length (codes es)) 0) (bad empty_list_number 0) x ≡ x
      some [] n = absurd (n refl)
      some (e ∷ es) n = rw (eqb-suc-zero (length (codes es)))

pub reads_only : {s : List ℕ} {x : Orders} → Reads s x → read_orders_lem s ≡ x
reads_only {s} (long_file l) = let t : ltb 16384 (length s) ≡ true = passes (is_lt 16384 (length s)) l in cc
reads_only {s} (short_file l d) = due_only s l d
