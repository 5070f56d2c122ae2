-- What holds while a row is scanned: the rest of the scan gives the row, and each buffer has at its beginning what has been
-- read of its field. One law for each thing a byte does, and one for the file's end.
use mathlib.Core.Path.{◌≡◌, refl, sym, ap, ◌∙◌}
use mathlib.Core.Logic.{◌≢◌}
use mathlib.Core.List.{List, [], ◌∷◌}
use Prim.Native.Nat.{ℕ, zero, suc, ◌+◌, ◌≤◌, ◌<◌}
use native.Mathlib.Numerals.{add-one}
use native.Mathlib.Omega.{arith}
use lib.ListN.{length, get_or, take, drop, set, length-append}
use lib.Seq.{drop-cons, get_or_at, take-suc-set}
use Rattle.std.specs.Prelude.{slice_get, Option, Some, None}
use Rattle.std.specs.Option.{option_copied}
use Rattle.std.specs.Slice.{IsItemAt}
use Rattle.std.proofs.Common.{Bor}
use Rattle.std.proofs.lemmas.Option.{slice_get_past, slice_get_read}
use Rattle.grammar.specs.Files.{add}
use Rattle.grammar.specs.Rows.{row_from, first_row}
use Rattle.rows.specs.Taken.{mode_of, row_after, Takes}
use Rattle.rows.specs.declared.scan.RowRead.{RowRead}
use Rattle.rows.specs.declared.scan.Mode.{Mode}
use Rattle.rows.specs.declared.scan.Mode.TheVariants.{Start}
use Rattle.rows.specs.declared.scan.Step.{Step}
use Rattle.rows.specs.declared.scan.Step.TheVariants.{Comma, Keep, Skip}

-- field k, where an empty field is added, or where another field grows
with_empty : (l : List (List ℕ)) (k : ℕ) → get_or (add l []) k [] ≡ get_or l k []
with_empty [] zero = refl
with_empty [] (suc k) = refl
with_empty (x ∷ l) zero = refl
with_empty (x ∷ l) (suc k) = with_empty l k

other_field : (fs : List (List ℕ)) (k : ℕ) (x y : List ℕ) → k ≢ length fs → get_or (add fs x) k [] ≡ get_or (add fs y) k []
other_field [] zero x y h = absurd (h refl)
other_field [] (suc k) x y h = refl
other_field (f ∷ fs) zero x y h = refl
other_field (f ∷ fs) (suc k) x y h = other_field fs k x y (λ e. h (ap suc e))

get_drop : (n : ℕ) (s : List ℕ) → slice_get (drop n s) 0 ≡ slice_get s n
get_drop zero s = refl
get_drop (suc n) [] = refl
get_drop (suc n) (x ∷ s) = get_drop n s

-- what `get` and `copied` give
pub copied_at : (xs : List ℕ) (i : ℕ) (r : Option (Bor ℕ)) → IsItemAt xs i r → option_copied r ≡ slice_get xs i
copied_at xs i None h = sym (slice_get_past xs i h.3)
copied_at xs i (Some x) h = sym (slice_get_read xs (length xs) i x.now refl h.3.0 h.1)

-- one byte more of it
module _ (fs : List (List ℕ)) (c buffer : List ℕ) {k : ℕ} (b : ℕ) where
  own_byte : (size : ℕ) → length fs ≡ k → size < length buffer → get_or (add fs c) k [] ≡ take size buffer
      → get_or (add fs (add c b)) k [] ≡ take (size + 1) (set buffer size b)
  own_byte size w room x =
      let e : c ≡ take size buffer = sym (get_or_at fs c [] [] k w) ∙ x in
      get_or_at fs (add c b) [] [] k w ∙ rw (add-one, take-suc-set, e)

  other_byte : (size : ℕ) → k ≢ length fs → get_or (add fs c) k [] ≡ take size buffer → get_or (add fs (add c b)) k [] ≡ take size buffer
  other_byte size h x = other_field fs k (add c b) c h ∙ x

-- the scan at i, in so many fields, with so many bytes of the name and of the code
pub record Scanning (here names bands : List ℕ) (m : Mode) (i : ℕ) (row : RowRead) : Type 0 where
  pub fs : List (List ℕ)
  pub c : List ℕ
  pub goes : row_from (mode_of m) fs c (drop i here) ≡ first_row here
  pub width : suc (length fs) ≡ row.fields
  pub size : row.size ≡ i
  pub few : row.fields ≤ suc i
  pub within : i ≤ length here
  pub name_size : row.name ≤ i
  pub code_size : row.code ≤ i
  pub name_in : get_or (add fs c) 0 [] ≡ take row.name names
  pub code_in_lem : get_or (add fs c) 1 [] ≡ take row.code bands

-- the byte there is taken so
pub record Taking (here names bands : List ℕ) (m : Mode) (i : ℕ) (row : RowRead) (r : Step) : Type 0 where
  pub scan : Scanning here names bands m i row
  pub more : i < length here
  pub takes : Takes (mode_of m) (get_or here i 0) (slice_get here (i + 1)) r

module _ {here names bands : List ℕ} {m : Mode} {i : ℕ} {row : RowRead} {r : Step}
    (y : Taking here names bands m i row r) where
  abbrev x : Scanning here names bands m i row
  x = y.scan

  -- the scan after it
  on : (z : Step) → r ≡ z → row_after z x.fs x.c (get_or here i 0) (drop (i + 1) here) ≡ first_row here
  on z u =
      let h : i < length here = y.more in
      let d : drop i here ≡ get_or here i 0 ∷ drop (i + 1) here = rw (add-one, drop-cons here i 0) in
      cc (y.takes.scans x.fs x.c (drop (i + 1) here) (get_drop (i + 1) here), x.goes)

  pub comma_next : r ≡ Comma
      → Scanning here names bands Start (i + 1)
      (record { fields = row.fields + 1; name = row.name; code = row.code; size = i + 1 })
  comma_next u = record {
    fs = add x.fs x.c;
    c = [];
    goes = on Comma u;
    width = let w = x.width in let z = length-append x.fs (x.c ∷ []) in omega arith;
    size = refl;
    few = let z = x.few in omega arith;
    within = let z = y.more in omega arith;
    name_size = let z = x.name_size in omega arith;
    code_size = let z = x.code_size in omega arith;
    name_in = with_empty (add x.fs x.c) 0 ∙ x.name_in;
    code_in_lem = with_empty (add x.fs x.c) 1 ∙ x.code_in_lem;
  }

  pub skipped : {m' : Mode} → r ≡ Skip m'
      → Scanning here names bands m' (i + 1)
      (record { fields = row.fields; name = row.name; code = row.code; size = i + 1 })
  skipped {m'} u = record {
    fs = x.fs;
    c = x.c;
    goes = on (Skip m') u;
    width = x.width;
    size = refl;
    few = let z = x.few in omega arith;
    within = let z = y.more in omega arith;
    name_size = let z = x.name_size in omega arith;
    code_size = let z = x.code_size in omega arith;
    name_in = x.name_in;
    code_in_lem = x.code_in_lem;
  }

  -- a byte of the content: of the name, of the code, or of another field
  module _ {m' : Mode} (u : r ≡ Keep m') where
    kept : {names' bands' : List ℕ} (name' code' : ℕ) → name' ≤ row.name + 1 → code' ≤ row.code + 1
        → get_or (add x.fs (add x.c (get_or here i 0))) 0 [] ≡ take name' names'
        → get_or (add x.fs (add x.c (get_or here i 0))) 1 [] ≡ take code' bands'
        → Scanning here names' bands' m' (i + 1)
        (record { fields = row.fields; name = name'; code = code'; size = i + 1 })
    kept name' code' n c a b = record {
      fs = x.fs;
      c = add x.c (get_or here i 0);
      goes = on (Keep m') u;
      width = x.width;
      size = refl;
      few = let z = x.few in omega arith;
      within = let z = y.more in omega arith;
      name_size = let z = x.name_size in omega arith;
      code_size = let z = x.code_size in omega arith;
      name_in = a;
      code_in_lem = b;
    }

    pub kept_name : row.fields ≡ 1 → row.name < length names
        → Scanning here (set names row.name (get_or here i 0)) bands m' (i + 1)
        (record { fields = row.fields; name = row.name + 1; code = row.code; size = i + 1 })
    kept_name e h =
        let w : length x.fs ≡ 0 = omega (arith, x.width) in
        kept (row.name + 1) row.code (omega arith) (omega arith) (own_byte x.fs x.c names _ _ w h x.name_in)
        (other_byte x.fs x.c bands _ _ (λ z. omega arith) x.code_in_lem)

    pub kept_code : row.fields ≡ 2 → row.code < length bands
        → Scanning here names (set bands row.code (get_or here i 0)) m' (i + 1)
        (record { fields = row.fields; name = row.name; code = row.code + 1; size = i + 1 })
    kept_code e h =
        let w : length x.fs ≡ 1 = omega (arith, x.width) in
        kept row.name (row.code + 1) (omega arith) (omega arith)
        (other_byte x.fs x.c names _ _ (λ z. omega arith) x.name_in)
        (own_byte x.fs x.c bands _ _ w h x.code_in_lem)

    pub kept_nothing : row.fields ≢ 1 → row.fields ≢ 2
        → Scanning here names bands m' (i + 1)
        (record { fields = row.fields; name = row.name; code = row.code; size = i + 1 })
    kept_nothing n k =
        kept row.name row.code (omega arith) (omega arith)
        (other_byte x.fs x.c names _ _ (λ z. n (omega (arith, x.width))) x.name_in)
        (other_byte x.fs x.c bands _ _ (λ z. k (omega (arith, x.width))) x.code_in_lem)
