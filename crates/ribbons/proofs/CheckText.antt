-- The line of a check is the line of its answer: a fit list is not refused, and there is room for all of its records. So each
-- answer that is left is one for which the program's claim has the line.
use Rattle.std.proofs.Common.{◌≡◌, sym, subst, true, List, [], ℕ, ◌≤◌, arith, ℤ, length, replicate, w32, to_z, of_z, Result, Ok}
use lib.ListN.{length-replicate, length-map}
use mir.Val.{SFits}
use mir.ValLaws.{to_z-of_z}
use Rattle.words.proofs.Deciding.{holds}
use Rattle.lists.specs.Refusals.{long_ribbon_number, unknown_colour_number}
use Rattle.lists.specs.Runs.{codes_in, over}
use Rattle.lists.specs.Fit.{list_ok_lem}
use Rattle.lists.specs.declared.numbers.Refusal.{Refusal}
use Rattle.lists.proofs.Rules.{codes_checked, is_fit_list}
use Rattle.grammar.specs.RibbonFile.{ribbon_of_lem}
use Rattle.checking.specs.Answers.{PlaceRecord, CheckOutcome, ChecksInto}
use Rattle.checking.specs.Answers.{false_list, long_ribbon, no_colour, no_place, short_buffer, filled}
use Rattle.places.specs.Calls.{record_of_lem, place_for}
use Rattle.verdicts.specs.Calls.{answer_of, ChecksAlone}
use Rattle.places.specs.declared.Place as declared
use Rattle.verdicts.specs.declared.Checked.{Checked}
use Rattle.verdicts.specs.declared.Checked.TheVariants.{Held}
use Rattle.sheets.proofs.Decimal.{digits_ours}
use Rattle.programs.specs.Programs.{held_line_lem, checked_line, WritesOver}
use Rattle.programs.specs.Prints.{CheckLine}
use Rattle.programs.specs.Prints as p
use Rattle.programs.proofs.Prints.{line_ours, signed_ours, check_line_only}
use Rattle.lines.specs.Lines.{line_of}
use Rattle.ribbons.proofs.Outputs.{writes_over}

-- each case of the claim on a check is a case of the claim on the program's line
module _ (run ls row : List ℕ) (ok : list_ok_lem run ls ≡ true) where
  abbrev codes : List (List ℕ)
  codes = codes_in run ls

  line_of_lem : {records : List PlaceRecord} {o : CheckOutcome} → 128 ≤ length records → ChecksInto run ls row records o
      → CheckLine row [] codes (line_of o.answer)
  line_of_lem room (false_list f) = absurd (holds (codes_checked run ls) ok f)
  line_of_lem room (long_ribbon fit l) = p.long_ribbon l (line_ours long_ribbon_number 0)
  line_of_lem room (no_colour fit l b) = p.no_colour l b (line_ours unknown_colour_number 0)
  line_of_lem room (no_place {k} fit m) = p.missing_line fit.long fit.bands m (digits_ours k)
  line_of_lem room (short_buffer fit a l) = absurd (omega (arith, (holds (is_fit_list run ls) ok).at_most))
  line_of_lem room (filled {d = d} rs fit a l x y z) = p.held_line fit.long fit.bands a x y (signed_ours d)

  -- a check with room for 128 records gives the answer
  line_is : {r : Result Checked Refusal} → ChecksAlone run ls row r → line_of (answer_of r) ≡ checked_line codes row
  line_is h =
      let one = place_for 0 [] [] in
      let blank : List declared.Place = replicate 128 one in
      let long = length-replicate 128 one in
      check_line_only row [] codes (line_of_lem (omega (arith, length-map blank record_of_lem)) (h.checks blank (omega arith)).means)

  pub check_written : {r : Result Checked Refusal} {before after : List ℕ} {n : ℕ} → ChecksAlone run ls row r
      → WritesOver (line_of (answer_of r)) before after n → WritesOver (checked_line codes row) before after n
  check_written {before = before} {after} {n} p w = subst (λ (t : List ℕ). WritesOver t before after n) (line_is p) w

  -- the difference is handed on as the number that its 32 bits are
  pub held_checked : {r : Result Checked Refusal} {before after : List ℕ} {n : ℕ} (d : ℤ) → SFits w32 d → ChecksAlone run ls row r → r ≡ Ok (Held d)
      → (n ≡ length (held_line_lem (to_z w32 (of_z w32 d)))) × (after ≡ over (held_line_lem (to_z w32 (of_z w32 d))) before)
      → WritesOver (checked_line codes row) before after n
  held_checked {before = before} {after} {n} d f p e w =
      let g = to_z-of_z w32 d f in
      let v = subst (λ (z : ℤ). (n ≡ length (held_line_lem z)) × (after ≡ over (held_line_lem z) before)) g w in
      check_written p (subst (λ (c : Result Checked Refusal). WritesOver (line_of (answer_of c)) before after n) (sym e) (writes_over v.0 v.1))

-- the ribbon is the one of the file
pub of_file : (codes : List (List ℕ)) (file : List ℕ) {row before after : List ℕ} {n : ℕ} → row ≡ ribbon_of_lem file
    → WritesOver (checked_line codes row) before after n → WritesOver (checked_line codes (ribbon_of_lem file)) before after n
of_file codes file {before = before} {after} {n} e w = subst (λ (s : List ℕ). WritesOver (checked_line codes s) before after n) e w
