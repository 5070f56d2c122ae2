-- What a program reads and writes is what is defined, for all three: a file that is read hands on a list that is fit, so the
-- program writes of that list; and a file that is refused is refused for itself, since the programs' own buffers suffice for
-- any list.
use Rattle.std.proofs.Common.{Result, Ok, Err, ◌≡◌, sym, ap, subst, ◌∙◌, inl, inr, true, List, [], ◌∷◌, ℕ, ◌*◌, ◌≤◌, arith, length, take, drop, length-append}
use native.Mathlib.Nat.{mul-suc}
use lib.ListN.{length-map}
use lib.Seq.{take_at, length-take-le}
use borrow.Author.Tests.{ne_eqb}
use Rattle.words.specs.Lists.{Each}
use Rattle.words.proofs.Lists.{each_map}
use Rattle.words.proofs.Deciding.{holds}
use Rattle.lists.specs.Refusals.{refusal}
use Rattle.lists.specs.Answers.{number_of, refusal_of}
use Rattle.lists.specs.declared.numbers.Refusal.{Refusal}
use Rattle.lists.specs.Runs.{codes_in, total, flat, lengths, over}
use Rattle.lists.specs.Rules.{CodeRule, NameRule, FitList, FitNames}
use Rattle.lists.specs.Fit.{list_ok_lem, names_ok_lem}
use Rattle.lists.proofs.Runs.{total-lengths}
use Rattle.lists.proofs.Rules.{is_fit_list, is_fit_names}
use Rattle.lists.proofs.Table.{some_number}
use Rattle.grammar.specs.Files as files
use Rattle.grammar.specs.Answers.{Lent, Short, result_of}
use Rattle.grammar.specs.HandsOn.{HandedOn}
use Rattle.grammar.proofs.Only.{reads_only}
use Rattle.grammar.specs.Orders.{read_orders_lem}
use Rattle.orders.specs.Calls.{Accepts, Refuses, in_file, in_buffers, Means, ReadsOrders}
use Rattle.orders.specs.declared.Orders.{Orders}
use Rattle.orders.proofs.Calls.{handed}
use Rattle.programs.specs.Programs.{refused_line_lem, written_for, of_list, WritesOver}

pub writes_over : {text before after : List ℕ} {r : ℕ} → r ≡ length text → after ≡ over text before
    → WritesOver text before after r
writes_over {text} {before} {after} {r} e f =
    let l : r ≤ length after =
    omega (arith, ap length f, length-append text (drop (length text) before)) in
    record { long = e; written = f; counts = (l, sym (length-take-le r after l)) }

-- Any list fits into 8,192 bands, 128 lengths, 3,072 bytes of names and 128 sizes.
sum_most : (cs : List (List ℕ)) (k : ℕ) → Each (λ (c : List ℕ). length c ≤ k) cs → total (lengths cs) ≤ k * length cs
sum_most [] k e = omega arith
sum_most (c ∷ cs) k e = omega (arith, e.0, sum_most cs k e.1, mul-suc k (length cs))

module _ {ns cs : List (List ℕ)} (h : HandedOn ns cs) where
  codes_fit : FitList (flat cs) (lengths cs)
  codes_fit = holds (is_fit_list (flat cs) (lengths cs)) h.list_passes

  names_fit : FitNames (length cs) (flat ns) (lengths ns)
  names_fit = holds (is_fit_names (length cs) (flat ns) (lengths ns)) h.names_pass

  count_fits : length cs ≤ 128
  count_fits = omega (arith, codes_fit.at_most, length-map cs length)

  bands_fit : length (flat cs) ≤ 8192
  bands_fit =
      omega (
        arith,
        total-lengths cs,
        sum_most cs 64 (each_map CodeRule (λ (c : List ℕ). length c ≤ 64) (λ c r. r.1) cs (rw h.same_codes at codes_fit.coded)),
        count_fits,
      )

  names_bytes_fit : length (flat ns) ≤ 3072
  names_bytes_fit =
      omega (
        arith,
        total-lengths ns,
        sum_most ns 24 (each_map NameRule (λ (c : List ℕ). length c ≤ 24) (λ c r. r.1) ns (rw h.same_names at names_fit.named)),
        names_fit.one_each,
        length-map ns length,
        count_fits,
      )

  room_suffices : (b : Lent) → 8192 ≤ length b.code_run → 128 ≤ length b.code_lengths → 3072 ≤ length b.name_run
      → 128 ≤ length b.name_lengths → Short b (result_of ns cs) → ⊥
  room_suffices b k l m n (inl x) = omega (arith, x, bands_fit)
  room_suffices b k l m n (inr (inl x)) = omega (arith, x, length-map cs length, count_fits)
  room_suffices b k l m n (inr (inr (inl x))) = omega (arith, x, names_bytes_fit)
  room_suffices b k l m n (inr (inr (inr x))) = omega (arith, x, length-map ns length, names_fit.one_each, count_fits)

-- A list that is read: codes and names are the beginnings of the four buffers, the later calls take them, and they are what
-- the file is read as.
module _ {file : List ℕ} {b left : Lent} {codes bands names : ℕ} (p : Accepts file b left codes bands names) where
  h : HandedOn p.ns p.cs
  h = p.handed_on

  counts_are : (codes ≡ length (lengths p.cs)) × (bands ≡ length (flat p.cs)) × (names ≡ length (flat p.ns))
  counts_are = let e = p.counted in (cc (e), cc (e), cc (e))

  sizes_count : length (lengths p.ns) ≡ codes
  sizes_count = omega (arith, counts_are.0, (names_fit h).one_each, length-map p.cs length)

  run_is : take bands left.code_run ≡ flat p.cs
  run_is =
      let e = ap (λ (l : Lent). l.code_run) p.written in
      rw e (take_at (flat p.cs) (drop (length (flat p.cs)) b.code_run) bands (sym counts_are.1))

  lengths_are : take codes left.code_lengths ≡ lengths p.cs
  lengths_are =
      let e = ap (λ (l : Lent). l.code_lengths) p.written in
      rw e (take_at (lengths p.cs) (drop (length (lengths p.cs)) b.code_lengths) codes (sym counts_are.0))

  name_run_is : take names left.name_run ≡ flat p.ns
  name_run_is =
      let e = ap (λ (l : Lent). l.name_run) p.written in
      rw e (take_at (flat p.ns) (drop (length (flat p.ns)) b.name_run) names (sym counts_are.2))

  sizes_are : take codes left.name_lengths ≡ lengths p.ns
  sizes_are =
      let e = ap (λ (l : Lent). l.name_lengths) p.written in
      rw e (take_at (lengths p.ns) (drop (length (lengths p.ns)) b.name_lengths) codes sizes_count)

  pub list_fits : list_ok_lem (take bands left.code_run) (take codes left.code_lengths) ≡ true
  list_fits = rw (run_is, lengths_are) h.list_passes

  pub names_fit_list : names_ok_lem codes (take names left.name_run) (take codes left.name_lengths) ≡ true
  names_fit_list = rw (name_run_is, sizes_are, counts_are.0, length-map p.cs length) h.names_pass

  pub counts_fit : (bands ≤ 8192) × (codes ≤ 128) × (names ≤ 3072)
  counts_fit = (
    omega (arith, counts_are.1, bands_fit h),
    omega (arith, counts_are.0, length-map p.cs length, count_fits h),
    omega (arith, counts_are.2, names_bytes_fit h),
  )

  pub read_as : read_orders_lem file
      ≡ files.orders 0 0 (codes_in (take names left.name_run) (take codes left.name_lengths))
      (codes_in (take bands left.code_run) (take codes left.code_lengths))
  read_as = rw (run_is, lengths_are, name_run_is, sizes_are, h.same_codes, h.same_names) (reads_only p.due)

-- A file that is refused is refused for itself: the program's buffers suffice for any list.
pub refused_as : {file : List ℕ} {b : Lent} {n row : ℕ} → 8192 ≤ length b.code_run → 128 ≤ length b.code_lengths
    → 3072 ≤ length b.name_run → 128 ≤ length b.name_lengths → Refuses file b n row → read_orders_lem file ≡ files.bad n row
refused_as k l m o (in_file x h) = reads_only x
refused_as {b = b} k l m o (in_buffers x s) = absurd (room_suffices (handed x) b k l m o s)

pub refused_output : (written : files.Orders → List ℕ) {file : List ℕ} {b : Lent} {n row : ℕ} → 8192 ≤ length b.code_run
    → 128 ≤ length b.code_lengths → 3072 ≤ length b.name_run → 128 ≤ length b.name_lengths → Refuses file b n row
    → of_list written file ≡ refused_line_lem (refusal n row)
refused_output written {n = n} k l m o (in_file x h) =
    let t = ne_eqb n 0 (λ z. omega (arith, h, z)) in
    ap (written_for written) (reads_only x) ∙ rw (t, written_for)
refused_output written {b = b} k l m o (in_buffers x s) = absurd (room_suffices (handed x) b k l m o s)

-- The two cases of what a program writes.
module _ (written : files.Orders → List ℕ) (file : List ℕ) {before after : List ℕ} {n : ℕ} where
  pub writes_list : {ns cs : List (List ℕ)} → read_orders_lem file ≡ files.orders 0 0 ns cs
      → WritesOver (written (files.orders 0 0 ns cs)) before after n → WritesOver (of_list written file) before after n
  writes_list e w = subst (λ (o : files.Orders). WritesOver (written_for written o) before after n) (sym e) w

  pub writes_refused : (r : Refusal) → read_orders_lem file ≡ files.bad (number_of r.fault) r.row
      → WritesOver (refused_line_lem (refusal_of r)) before after n → WritesOver (of_list written file) before after n
  writes_refused r e w =
      let t = ne_eqb (number_of r.fault) 0 (λ z. omega (arith, some_number r.fault, z)) in
      subst (λ (o : files.Orders). WritesOver (written_for written o) before after n) (sym e)
      (rw (t, written_for) w)

-- The same from the call's answer.
module _ (written : files.Orders → List ℕ) (file : List ℕ) {b left : Lent} {r : Result Orders Refusal} (p : ReadsOrders file b left r) where
  -- the orders as the program has them
  abbrev pub orders_in : Orders → files.Orders
  orders_in o =
      files.orders 0 0 (codes_in (take o.names left.name_run) (take o.codes left.name_lengths))
      (codes_in (take o.bands left.code_run) (take o.codes left.code_lengths))

  pub writes_of_list : {o : Orders} → r ≡ Ok o → {before after : List ℕ} {n : ℕ}
      → WritesOver (written (orders_in o)) before after n → WritesOver (of_list written file) before after n
  writes_of_list e w = writes_list written file (read_as (subst (Means file b left) e p.means)) w

  pub writes_refusal : {x : Refusal} → r ≡ Err x → 8192 ≤ length b.code_run → 128 ≤ length b.code_lengths
      → 3072 ≤ length b.name_run → 128 ≤ length b.name_lengths → {before after : List ℕ} {n : ℕ}
      → WritesOver (refused_line_lem (refusal_of x)) before after n → WritesOver (of_list written file) before after n
  writes_refusal {x} e k l m o w =
      let f = subst (Means file b left) e p.means in
      writes_refused written file x (refused_as k l m o f.0) w
