-- The claim on the reader: ours meets it, and it leaves no freedom.
-- So a file is accepted exactly when the grammar derives it and the rules hold, with the names and codes written in it.
use mathlib.Core.Path.{◌≡◌, refl, sym}
use mathlib.Core.Logic.{◌≢◌}
use mathlib.Core.List.{List, []}
use Prim.Native.Nat.{ℕ, ◌≤◌, ◌<◌}
use native.Mathlib.Omega.{arith}
use lib.ListN.{length}
use Rattle.lists.specs.Refusals.{long_file_number, wrong_heading_number, empty_list_number}
use Rattle.grammar.specs.Files.{Orders, orders, bad}
use Rattle.grammar.specs.Grammar.{Entry, names, codes, no_bytes, in_heading, in_entry, empty_list, accepted}
use Rattle.grammar.specs.Grammar.{Passed, Reads, long_file, short_file, Meets}
use Rattle.grammar.specs.Orders.{read_orders_lem}
use Rattle.grammar.proofs.Faults.{of_heading, of_entry, lowest_given}
use Rattle.grammar.proofs.Reading.{reads_ours}
use Rattle.grammar.proofs.Only.{reads_only}

pub meets_ours : Meets read_orders_lem
meets_ours s = reads_ours s

pub meets_only : (read : List ℕ → Orders) → Meets read → (s : List ℕ) → read s ≡ read_orders_lem s
meets_only read m s = sym (reads_only (m s))

-- accepted, with these entries
pub record Accepted (s : List ℕ) (es : List Entry) : Type 0 where
  pub size : length s ≤ 16384
  pub passed : Passed s es []
  pub some : es ≢ []

-- an answer that is due is a refusal, whose number is not 0, or tells what is accepted
pub data Kind (s : List ℕ) : Orders → Type 0 where
  unfit : {n l : ℕ} → 0 < n → Kind s (bad n l)
  tells : {es : List Entry} → Accepted s es → Kind s (orders 0 0 (names es) (codes es))

pub kind : {s : List ℕ} {x : Orders} → Reads s x → Kind s x
kind (long_file l) = unfit {n = long_file_number} (omega arith)
kind (short_file l (no_bytes e)) = unfit {n = wrong_heading_number} (omega arith)
kind {s} (short_file l (in_heading n f)) = unfit (lowest_given of_heading s f).0
kind (short_file l (in_entry {es} {here = t} p n f)) = unfit (lowest_given (of_entry (names es)) t f).0
kind (short_file l (empty_list p)) = unfit {n = empty_list_number} (omega arith)
kind (short_file l (accepted p n)) = tells (record { size = l; passed = p; some = n })

pub accepted_if : (s : List ℕ) (es : List Entry) → Accepted s es → read_orders_lem s ≡ orders 0 0 (names es) (codes es)
accepted_if s es a = reads_only (short_file a.size (accepted a.passed a.some))

pub accepted_only_if : (s : List ℕ) → (read_orders_lem s).number ≡ 0
    → (es : List Entry) × Accepted s es × (read_orders_lem s ≡ orders 0 0 (names es) (codes es))
accepted_only_if s = by (kind (reads_ours s))
  where
    by : {x : Orders} → Kind s x → x.number ≡ 0
        → (es : List Entry) × Accepted s es × (x ≡ orders 0 0 (names es) (codes es))
    by (unfit h) z = absurd (omega arith)
    by (tells {es} a) z = (es, a, refl)
