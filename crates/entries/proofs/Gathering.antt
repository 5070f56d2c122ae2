-- From row to row the answer for the file stays what it is: what the loop over entries keeps, how it begins, goes on and
-- ends.
use mathlib.Core.Path.{◌≡◌, sym, ap, ◌∙◌}
use mathlib.Core.Logic.{◌≢◌}
use mathlib.Core.Bool.{Bool, false}
use mathlib.Core.List.{List, [], ◌++◌}
use Prim.Native.Nat.{ℕ, zero, suc, ◌+◌, ◌≤◌, ◌<◌}
use native.Mathlib.Omega.{arith}
use lib.Dec.{eqb}
use lib.ListN.{length, take, drop, set, length-drop, length-set}
use lib.Seq.{length-take-le}
use borrow.Author.Tests.{eq-eqb, ne_eqb, le-ltb}
use Rattle.words.specs.Tests.{pick}
use Rattle.words.proofs.Deciding.{is_eq, fails}
use Rattle.lists.specs.Refusals.{empty_list_number}
use Rattle.lists.specs.Runs.{codes_in}
use Rattle.lists.specs.Handed.{words_of}
use Rattle.lists.specs.declared.handed.Run.{Run}
use Rattle.grammar.specs.Files.{Orders, orders, bad, add}
use Rattle.grammar.specs.Rows.{first_row}
use Rattle.grammar.specs.Orders.{head_fault_lem, entry_fault_lem, name_in, code_in, row_fault, rows_from, read_orders_lem}
use Rattle.rows.specs.Scans.{RowFound}
use Rattle.rows.specs.declared.scan.RowRead.{RowRead}
use Rattle.std.specs.Borrow.{Bor}
use Rattle.entries.specs.Gathering.{TwoFound, Finds, ChecksRow}
use Rattle.std.specs.Prelude.{Result, Ok, Err, IfOk}
use Rattle.lists.specs.Answers.{number_of, number_told}
use Rattle.lists.specs.declared.numbers.Fault.{Fault}
use Rattle.lists.proofs.Table.{some_number}
use Rattle.grammar.proofs.Faults.{of_entry, sound_row}
use Rattle.grammar.proofs.Entries.{name_kept, code_kept, room}
use Rattle.entries.proofs.Filing.{Filing, filed_none, filed_count, filed_words, filed_length, filed_add}

-- The definition, step by step: at the end, at a faulty row, and past an entry.
module _ (f k : ℕ) (ns cs : List (List ℕ)) (s : List ℕ) where
  rows_end : length s ≡ 0
      → rows_from (suc f) k ns cs s ≡ pick (eqb (length cs) 0) (bad empty_list_number 0) (orders 0 0 ns cs)
  rows_end z = cc (eq-eqb (length s) 0 z)

  rows_fault : length s ≢ 0 → row_fault (entry_fault_lem ns) (first_row s) ≢ 0
      → rows_from (suc f) k ns cs s ≡ bad (row_fault (entry_fault_lem ns) (first_row s)) k
  rows_fault h e = cc (ne_eqb (length s) 0 h, ne_eqb (row_fault (entry_fault_lem ns) (first_row s)) 0 e)

  rows_on : length s ≢ 0 → row_fault (entry_fault_lem ns) (first_row s) ≡ 0
      → rows_from (suc f) k ns cs s
      ≡ rows_from f (suc k) (add ns (name_in (first_row s))) (add cs (code_in (first_row s))) (first_row s).rest
  rows_on h e = cc (ne_eqb (length s) 0 h, eq-eqb (row_fault (entry_fault_lem ns) (first_row s)) 0 e)

-- A row checked by a test that finds these faults of its two fields.
pub record Checked (here : List ℕ) (of_two : List ℕ → List ℕ → ℕ) (names bands : List ℕ) (r : Result RowRead Fault) : Type 0 where
  pub fault : number_told r ≡ row_fault of_two (first_row here)
  pub found : IfOk r (λ c. TwoFound here names bands (first_row here) c)

pub checked : {here names bands : List ℕ} {answers : Bor (List ℕ) → Bor (List ℕ) → Result (Unit {0}) Fault → Type 0}
    {r : Result RowRead Fault} (of_two : List ℕ → List ℕ → ℕ) → ChecksRow here answers names bands r → Finds answers of_two
    → Checked here of_two names bands r
checked of_two h t = record { fault = h.fault of_two t; found = h.found }

module _ (s : List ℕ) (few : length s ≤ 16384) (some : length s ≢ 0) where
  head_good : row_fault head_fault_lem (first_row s) ≡ 0
      → read_orders_lem s ≡ rows_from (suc (length s)) 2 [] [] (first_row s).rest
  head_good e =
      cc
      (le-ltb 16384 (length s) few, ne_eqb (length s) 0 some, eq-eqb (row_fault head_fault_lem (first_row s)) 0 e)

  pub bad_heading : {names bands : List ℕ} {f : Fault} → Checked s head_fault_lem names bands (Err f)
      → read_orders_lem s ≡ bad (number_of f) 1
  bad_heading {f = f} h =
      let ne : row_fault head_fault_lem (first_row s) ≢ 0 = λ z. absurd (omega (arith, h.fault ∙ z, some_number f)) in
      cc
      (le-ltb 16384 (length s) few, ne_eqb (length s) 0 some, ne_eqb (row_fault head_fault_lem (first_row s)) 0 ne, h.fault)

-- What the loop keeps, for the answer x: the words so far are filed, the rows that are left give x, and they fit behind both
-- marks.
pub record Going (x : Orders) (rest bands ls names sizes : List ℕ) (count bmark nmark : ℕ) : Type 0 where
  pub ns : List (List ℕ)
  pub cs : List (List ℕ)
  pub fuel : ℕ
  pub goes : rows_from (suc fuel) (2 + count) ns cs rest ≡ x
  pub enough : length rest ≤ fuel
  pub names_filed : Filing ns names nmark sizes count
  pub codes_filed : Filing cs bands bmark ls count
  pub few : count ≤ 128
  pub name_room : nmark + length rest ≤ length names
  pub code_room : bmark + length rest ≤ length bands
  pub names_most : length names ≤ 16384
  pub bands_most : length bands ≤ 16384
  pub lengths_room : 128 ≤ length ls
  pub sizes_room : 128 ≤ length sizes

-- It begins after the heading, where no entry is filed yet.
module _ {file names bands : List ℕ} (few : length file ≤ 16384) (some : 0 < length file) where
  pub begins : {ls sizes : List ℕ} {r : RowRead} → length names ≡ 16384 → length bands ≡ 16384 → length ls ≡ 128
      → length sizes ≡ 128 → Checked file head_fault_lem names bands (Ok r)
      → Going (read_orders_lem file) (drop r.size file) bands ls names sizes 0 0 0
  begins {ls} {sizes} {r} n b l z h =
      let k = length-drop r.size file in
      record {
        ns = [];
        cs = [];
        fuel = length file;
        goes = rw h.found.row.rest (sym (head_good file few (λ e. omega arith) (sym h.fault)));
        enough = omega arith;
        names_filed = filed_none names sizes;
        codes_filed = filed_none bands ls;
        few = omega arith;
        name_room = omega arith;
        code_room = omega arith;
        names_most = omega arith;
        bands_most = omega arith;
        lengths_room = omega arith;
        sizes_room = omega arith;
      }

-- It goes on past an entry, or ends at a faulty row.
module _ {x : Orders} {rest bands ls names sizes : List ℕ} {count bmark nmark : ℕ}
    (g : Going x rest bands ls names sizes count bmark nmark) where
  abbrev so_far : List (List ℕ)
  so_far = codes_in (take nmark names) (take count sizes)

  -- the next row, checked by a test that finds the faults of an entry after the words so far
  pub checked_entry : {names' bands' : List ℕ} {answers : Bor (List ℕ) → Bor (List ℕ) → Result (Unit {0}) Fault → Type 0}
      {r : Result RowRead Fault} (before : Run) → ChecksRow rest answers names' bands' r → Finds answers (entry_fault_lem (words_of before))
      → before.bytes.now ≡ take nmark names → before.sizes.now ≡ take count sizes
      → Checked rest (entry_fault_lem so_far) names' bands' r
  checked_entry before h t b z = checked (entry_fault_lem so_far) h (rw (b, z) at t)

  is_fault : {names' bands' : List ℕ} {r : Result RowRead Fault} → Checked rest (entry_fault_lem so_far) names' bands' r
      → number_told r ≡ row_fault (entry_fault_lem g.ns) (first_row rest)
  is_fault h = h.fault ∙ ap (λ ns. row_fault (entry_fault_lem ns) (first_row rest)) (filed_words g.names_filed)

  left : false ≡ eqb (length rest) 0 → length rest ≢ 0
  left more = fails (is_eq (length rest) 0) (sym more)

  module _ (more : false ≡ eqb (length rest) 0) {names' bands' : List ℕ} where
    pub bad_entry : {f : Fault} → Checked rest (entry_fault_lem so_far) names' bands' (Err f)
        → x ≡ bad (number_of f) (2 + count)
    bad_entry {f} h =
        sym g.goes
        ∙ (rows_fault g.fuel (2 + count) g.ns g.cs rest (left more) (λ z. absurd (omega (arith, is_fault h ∙ z, some_number f)))
        ∙ ap (λ n. bad n (2 + count)) (sym (is_fault h)))

    module _ {r : RowRead} (h : Checked rest (entry_fault_lem so_far) names' bands' (Ok r)) where
      abbrev found : RowFound rest names' bands' (first_row rest) r
      found = h.found.row

      width : length (first_row rest).fields ≡ 2
      width = sym found.width ∙ h.found.two

      -- both fields lie in the buffers
      module _ (name_part : length names' + nmark ≡ length names) (code_part : length bands' + bmark ≡ length bands) where
        name_within : r.name ≤ length names'
        name_within = omega (arith, found.name_fits, found.within, g.name_room)

        code_within : r.code ≤ length bands'
        code_within = omega (arith, found.code_fits, found.within, g.code_room)

        -- the name has at most 24 bytes, the code at most 64, and there is room for one more
        pub small : (r.name ≤ 24) × (r.code ≤ 64) × (count < 128)
        small =
            let sound = (sound_row (of_entry g.ns) rest (sym (is_fault h))).1 in
            let n = ap length (found.name_is width) ∙ length-take-le r.name names' name_within in
            let c = ap length (found.code_is width) ∙ length-take-le r.code bands' code_within in
            let k : count < 128 = omega (arith, room sound, filed_count g.names_filed) in
            (omega (arith, name_kept sound, n), omega (arith, code_kept sound, c), k)

        module _ {front_names front_bands : List ℕ} (fn : front_names ≡ take nmark names) (fb : front_bands ≡ take bmark bands) where
          abbrev Onward : Type 0
          Onward =
              Going x (drop r.size rest) (front_bands ++ bands') (set ls count r.code) (front_names ++ names')
              (set sizes count r.name) (count + 1) (bmark + r.code) (nmark + r.name)

          pub goes_on : Onward
          goes_on = by g.fuel g.goes g.enough
            where
              by : (f : ℕ) → rows_from (suc f) (2 + count) g.ns g.cs rest ≡ x → length rest ≤ f → Onward
              by zero y l = absurd (left more (omega arith))
              by (suc f) y l =
                  let k : 2 + (count + 1) ≡ suc (2 + count) = omega arith in
                  let ne = left more in
                  let on = rows_on (suc f) (2 + count) g.ns g.cs rest ne (sym (is_fault h)) in
                  let few : count < 128 = small.2 in
                  let d = length-drop r.size rest in
                  let ln = filed_length g.names_filed names' fn name_part in
                  let lb = filed_length g.codes_filed bands' fb code_part in
                  record {
                    ns = add g.ns (name_in (first_row rest));
                    cs = add g.cs (code_in (first_row rest));
                    fuel = f;
                    goes = rw (found.rest, k) (sym on ∙ y);
                    enough = omega (arith, found.onward (omega arith), found.within);
                    names_filed =
                        filed_add g.names_filed names' r.name fn name_part name_within (found.name_is width)
                        (omega (arith, g.sizes_room));
                    codes_filed =
                        filed_add g.codes_filed bands' r.code fb code_part code_within (found.code_is width)
                        (omega (arith, g.lengths_room));
                    few = omega arith;
                    name_room = omega (arith, found.name_fits, found.within, g.name_room);
                    code_room = omega (arith, found.code_fits, found.within, g.code_room);
                    names_most = omega (arith, ln, g.names_most);
                    bands_most = omega (arith, lb, g.bands_most);
                    lengths_room = omega (arith, g.lengths_room, length-set ls count r.code);
                    sizes_room = omega (arith, g.sizes_room, length-set sizes count r.name);
                  }

  -- It ends with the file.
  module _ (over : length rest ≡ 0) where
    abbrev by_count : Bool → Orders
    by_count none = pick none (bad empty_list_number 0) (orders 0 0 g.ns g.cs)

    at_end : x ≡ by_count (eqb (length g.cs) 0)
    at_end = sym g.goes ∙ rows_end g.fuel (2 + count) g.ns g.cs rest over

    pub no_entries : count ≡ 0 → x ≡ bad empty_list_number 0
    no_entries e = at_end ∙ ap by_count (eq-eqb (length g.cs) 0 (omega (arith, filed_count g.codes_filed)))
