-- The faults of two fields.
use mathlib.Core.Path.{◌≡◌, refl, sym, ap, ◌∙◌}
use mathlib.Core.Logic.{◌≢◌}
use mathlib.Core.Bool.{Bool, true, false, not, ◌&&◌}
use mathlib.Core.List.{List}
use Prim.Native.Nat.{ℕ, ◌≤◌, ◌<◌}
use lib.Dec.{eqb, ltb, leb}
use lib.ListN.{length}
use borrow.Author.Tests.{ne_eqb, le-ltb, le-leb, lt-leb}
use Rattle.words.specs.Tests.{same}
use Rattle.words.proofs.Deciding.{is_same, refuses}
use Rattle.lists.specs.Refusals.{wrong_heading_number, bad_name_number}
use Rattle.lists.specs.Refusals.{no_bands_number, long_code_number, unknown_colour_number}
use Rattle.lists.specs.Refusals.{name_taken_number, list_full_number, when, first_of}
use Rattle.lists.specs.Fit.{is_in, all_bands_lem, name_ok_lem}
use Rattle.grammar.specs.Files.{word_name, word_code}
use Rattle.grammar.specs.Orders.{head_fault_lem, entry_fault_lem}
use Rattle.lists.specs.Runs.{codes_in}
use Rattle.lists.proofs.Runs.{codes_count}

-- The fields' own fault, by its tests.
abbrev by_tests : Bool → Bool → Bool → Bool → Bool → Bool → ℕ
by_tests name empty long bands taken full =
    first_of (when (not name) bad_name_number)
    (first_of (when empty no_bands_number)
    (first_of (when long long_code_number)
    (first_of (when (not bands) unknown_colour_number)
    (first_of (when taken name_taken_number)
    (when full list_full_number)))))

pub entry_fault_by : (ns : List (List ℕ)) (n c : List ℕ) {name empty long bands taken full : Bool} → name_ok_lem n ≡ name
    → eqb (length c) 0 ≡ empty → ltb 64 (length c) ≡ long → all_bands_lem c ≡ bands → is_in n ns ≡ taken
    → leb 128 (length ns) ≡ full → by_tests name empty long bands taken full ≡ entry_fault_lem ns n c
entry_fault_by ns n c h1 h2 h3 h4 h5 h6 = sym (cc)

-- Where each test but the last is passed: the list is full, or there is no fault.
module _ (run ls n c : List ℕ) (named : name_ok_lem n ≡ true) (some : length c ≢ 0) (short : length c ≤ 64)
    (banded : all_bands_lem c ≡ true) (new : is_in n (codes_in run ls) ≡ false) where
  last_test : {full : Bool} → leb 128 (length ls) ≡ full → when full list_full_number ≡ entry_fault_lem (codes_in run ls) n c
  last_test h =
      entry_fault_by (codes_in run ls) n c named (ne_eqb _ _ some) (le-ltb _ _ short) banded new
      (ap (leb 128) (codes_count run ls) ∙ h)

  pub full_fault : 128 ≤ length ls → 10 ≡ entry_fault_lem (codes_in run ls) n c
  full_fault h = last_test (le-leb 128 (length ls) h)

  pub no_fault : length ls < 128 → 0 ≡ entry_fault_lem (codes_in run ls) n c
  no_fault h = last_test (lt-leb 128 (length ls) h)

-- Another heading, by either field.
pub other_name : (n c : List ℕ) → n ≢ word_name → wrong_heading_number ≡ head_fault_lem n c
other_name n c h = rw (refuses (is_same n word_name) h)

pub other_code : (n c : List ℕ) → c ≢ word_code → wrong_heading_number ≡ head_fault_lem n c
other_code n c h = go (same n word_name)
  where
    go : (t : Bool) → wrong_heading_number ≡ when (not (t && same c word_code)) wrong_heading_number
    go true = rw (refuses (is_same c word_code) h)
    go false = refl
