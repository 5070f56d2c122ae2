-- The table's tests of a row's two fields: each decides its number's condition, so that their chain gives the lowest.
use mathlib.Core.Path.{◌≡◌, refl}
use mathlib.Core.Logic.{◌≢◌}
use mathlib.Core.Bool.{◌&&◌}
use mathlib.Core.List.{List, [], ◌∷◌}
use Prim.Native.Nat.{ℕ, suc, ◌≤◌, ◌<◌}
use native.Mathlib.Omega.{arith}
use lib.Dec.{eqb, eqb-suc-zero}
use lib.ListN.{length}
use Rattle.words.specs.Tests.{same}
use Rattle.words.specs.Lists.{In, Each}
use Rattle.words.specs.Decides.{Decides, yes}
use Rattle.words.proofs.Deciding.{decide, decides_not, stable, decides_via, decides_and, is_le, is_lt, is_same}
use Rattle.lists.specs.Refusals.{wrong_heading_number, bad_name_number, no_bands_number, long_code_number, unknown_colour_number, name_taken_number, list_full_number}
use Rattle.lists.specs.Rules.{Band, NameRule}
use Rattle.lists.proofs.Refusals.{Least, test, last_test, from_0}
use Rattle.lists.proofs.Rules.{is_name, is_in_lem, all_bands}
use Rattle.grammar.specs.Files.{word_name, word_code, heading}
use Rattle.grammar.specs.Grammar.{HeadFault, wrong_heading, EntryFault, bad_name, no_bands, long_code}
use Rattle.grammar.specs.Grammar.{unknown_colour, name_taken, list_full}
use Rattle.grammar.specs.Orders.{head_fault_lem, entry_fault_lem}

pub is_empty : (c : List ℕ) → Decides (c ≡ []) (eqb (length c) 0)
is_empty [] = yes refl
is_empty (b ∷ c) = decide (eqb (suc (length c)) 0) (λ e. cc (eqb-suc-zero (length c))) (λ e. cc)

-- row 1
is_heading : (n c : List ℕ) → Decides (n ∷ (c ∷ []) ≡ heading) (same n word_name && same c word_code)
is_heading n c =
    decides_via (λ h. cc (h.0, h.1)) (λ e. (cc e, cc e)) (decides_and (is_same n word_name) (is_same c word_code))

pub right_heading : {n c : List ℕ} → ((k : ℕ) → HeadFault (n ∷ (c ∷ [])) k → ⊥) → n ∷ (c ∷ []) ≡ heading
right_heading {n} {c} h = stable (is_heading n c) (λ q. h wrong_heading_number (wrong_heading q))

pub head_range : (fs : List (List ℕ)) (k : ℕ) → HeadFault fs k → (4 ≤ k) × (k ≤ 4)
head_range fs k (wrong_heading q) = omega arith

pub head_least : (n c : List ℕ) → Least (HeadFault (n ∷ (c ∷ []))) 0 (head_fault_lem n c)
head_least n c =
    let fs = n ∷ (c ∷ []) in
    from_0 (λ k f. (head_range fs k f).0)
    (last_test (λ k f. (head_range fs k f).1) (decides_via wrong_heading because4 (decides_not (is_heading n c))))
  where
    because4 : HeadFault (n ∷ (c ∷ [])) wrong_heading_number → n ∷ (c ∷ []) ≢ heading
    because4 (wrong_heading q) = q

-- a row after the heading
module _ (ns : List (List ℕ)) where
  pub entry_range : (fs : List (List ℕ)) (k : ℕ) → EntryFault ns fs k → (5 ≤ k) × (k ≤ 10)
  entry_range fs k (bad_name h) = omega arith
  entry_range fs k (no_bands h) = omega arith
  entry_range fs k (long_code h) = omega arith
  entry_range fs k (unknown_colour h) = omega arith
  entry_range fs k (name_taken h) = omega arith
  entry_range fs k (list_full h) = omega arith

  module _ (n c : List ℕ) where
    abbrev F : ℕ → Type 0
    F = EntryFault ns (n ∷ (c ∷ []))

    because5 : F bad_name_number → NameRule n → ⊥
    because5 (bad_name h) = h

    because6 : F no_bands_number → c ≡ []
    because6 (no_bands h) = h

    because7 : F long_code_number → 64 < length c
    because7 (long_code h) = h

    because8 : F unknown_colour_number → Each Band c → ⊥
    because8 (unknown_colour h) = h

    because9 : F name_taken_number → In n ns
    because9 (name_taken h) = h

    because10 : F list_full_number → 128 ≤ length ns
    because10 (list_full h) = h

    pub entry_least : Least (EntryFault ns (n ∷ (c ∷ []))) 0 (entry_fault_lem ns n c)
    entry_least =
        let fs = n ∷ (c ∷ []) in
        from_0 (λ k f. (entry_range fs k f).0)
        (test (decides_via bad_name because5 (decides_not (is_name n)))
        (test (decides_via no_bands because6 (is_empty c))
        (test (decides_via long_code because7 (is_lt 64 (length c)))
        (test (decides_via unknown_colour because8 (decides_not (all_bands c)))
        (test (decides_via name_taken because9 (is_in_lem n ns))
        (last_test
        (λ k f. (entry_range fs k f).1)
        (decides_via list_full because10 (is_le 128 (length ns)))))))))
