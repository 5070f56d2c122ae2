-- A fit list with names is written into the sheet program's row: no sheet is longer than the row, so it is not refused.
use Rattle.std.proofs.Common.{◌≡◌, refl, subst, ◌∙◌, true, List, ℕ, ◌≤◌, arith, rules, length, Result, Ok, Err, IsOk}
use borrow.Author.Tests.{le-ltb}
use Rattle.lists.specs.Runs.{over}
use Rattle.lists.specs.Fit.{list_ok_lem, names_ok_lem}
use Rattle.lists.specs.declared.numbers.Refusal.{Refusal}
use Rattle.sheets.specs.Answers.{sheet_for, sheet_outcome}
use Rattle.sheets.proofs.Room.{sheet_at_most, accepts}
use Rattle.writer.specs.Calls.{WritesSheet}
use Rattle.writer.specs.declared.Wrote.{Wrote}
use Rattle.programs.specs.Programs.{WritesOver}
use Rattle.ribbons.proofs.Outputs.{writes_over}

module _ (run ls name_run name_ls before : List ℕ) {after : List ℕ} {r : Result Wrote Refusal} (p : WritesSheet run ls name_run name_ls before after r)
    (ok : list_ok_lem run ls ≡ true) (named : names_ok_lem (length ls) name_run name_ls ≡ true) (room : 17181 ≤ length before) where
  abbrev sheet : List ℕ
  sheet = sheet_for run ls name_run name_ls

  left_is : after ≡ over sheet before
  left_is =
      let l = le-ltb (length before) (length sheet) (omega (arith, sheet_at_most run ls name_run name_ls ok named)) in
      p.left ∙ rw (sheet_outcome, ok, named, l)

  told : {x : Result Wrote Refusal} → r ≡ x → WritesSheet run ls name_run name_ls before after x
  told e = subst (WritesSheet run ls name_run name_ls before after) e p

  pub sheet_never_refused : {x : Refusal} → r ≡ Err x → ⊥
  sheet_never_refused e =
      let f = (told e).answer ∙ accepts run ls name_run name_ls ok named before room in cc

  not_refused : (x : Result Wrote Refusal) → r ≡ x → IsOk x
  not_refused (Ok wrote) e = search rules
  not_refused (Err refusal) e = absurd (sheet_never_refused e)

  pub sheet_accepted : IsOk r
  sheet_accepted = not_refused r refl

  pub sheet_written : {wrote : Wrote} → r ≡ Ok wrote → WritesOver sheet before after wrote.bytes
  sheet_written e =
      let f = (told e).answer ∙ accepts run ls name_run name_ls ok named before room in
      writes_over (cc (f)) left_is
