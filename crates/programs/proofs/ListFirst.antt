-- The check program deals with the order list before the ribbon file: the output for a ribbon file of 0 bytes tells whether
-- the list is refused. No code stands on a row of no bands, so where the list is not refused code 0 is missing; and where it
-- is, its line is written whatever the ribbon file holds.
use mathlib.Core.Path.{◌≡◌, subst}
use mathlib.Core.List.{List, [], ◌∷◌}
use Prim.Native.Nat.{ℕ, ◌≤◌}
use native.Mathlib.Omega.{arith}
use lib.ListN.{length, length-map}
use borrow.Author.Tests.{eq-eqb, ne_eqb}
use Rattle.words.specs.Texts.{text}
use Rattle.words.specs.Lists.{Each}
use Rattle.words.specs.Turn.{turned}
use Rattle.words.proofs.Deciding.{holds}
use Rattle.words.proofs.Turning.{turning}
use Rattle.words.proofs.Standing.{way_length}
use Rattle.lists.specs.Runs.{flat, lengths}
use Rattle.lists.specs.Rules.{CodeRule}
use Rattle.lists.proofs.Rules.{is_fit_list}
use Rattle.grammar.specs.Orders.{read_orders_lem}
use Rattle.grammar.proofs.HandsOn.{hands_on}
use Rattle.checking.specs.Check.{missing, missing_on, lowest}
use Rattle.checking.proofs.Check.{misses_ours, missing_one}
use Rattle.programs.specs.Programs.{written_for, of_list, checked_line, check_output_lem}

first_missing : (cs : List (List ℕ)) → 1 ≤ length cs → Each CodeRule cs → missing_on turned cs [] ≡ missing 0
first_missing [] l e = absurd (omega arith)
first_missing (c ∷ cs) l (r, rs) =
    missing_one (misses_ours turned (c ∷ cs) [])
    (lowest (omega arith) (λ s. omega (arith, r.0, way_length turning s)) (λ j h. absurd (omega arith)))

module _ (list : List ℕ) where
  pub no_bands_missing : (read_orders_lem list).number ≡ 0 → check_output_lem list [] ≡ text "missing,0\r\n"
  no_bands_missing e =
      let cs = (read_orders_lem list).codes in
      let H = hands_on list e in
      let F = holds (is_fit_list (flat cs) (lengths cs)) H.list_passes in
      let m = first_missing cs (omega (arith, F.some, length-map cs length)) (subst (Each CodeRule) H.same_codes F.coded) in
      let t = eq-eqb (read_orders_lem list).number 0 e in
      rw (t, m, check_output_lem, of_list, written_for, checked_line)

  pub refused_whatever : ((read_orders_lem list).number ≡ 0 → ⊥) → (file : List ℕ) → check_output_lem list file ≡ check_output_lem list []
  refused_whatever n file =
      let t = ne_eqb (read_orders_lem list).number 0 n in
      rw (t, check_output_lem, of_list, written_for)
