-- What the calls for programs in C promise: each answers in plain data that stands for one answer of a call of `ribbons`, and
-- this one keeps that call's contract, with all that it means, demand 3 too.
use Rattle.std.specs.Prelude.{◌≡◌, true, false, List, [], ◌∷◌, ℕ, zero, suc, ◌-◌, pos, length, take, slice_index_or, Result, Ok, Err}
use Rattle.words.specs.Tests.{pick}
use Rattle.lists.specs.Answers.{number_of}
use Rattle.lists.specs.declared.numbers.Fault.{Fault}
use Rattle.lists.specs.declared.numbers.Fault.TheVariants as fault
use Rattle.lists.specs.declared.numbers.Refusal.{Refusal}
use Rattle.grammar.specs.Answers.{Lent}
use Rattle.grammar.specs.RibbonFile.{RibbonFile, ribbon_of_lem}
use Rattle.orders.specs.Calls.{ReadsOrders}
use Rattle.orders.specs.declared.Orders.{Orders}
use Rattle.layout.specs.Calls.{LaysRibbon}
use Rattle.layout.specs.Laid.{Laid}
use Rattle.verdicts.specs.Calls.{ChecksAlone}
use Rattle.verdicts.specs.declared.Checked.{Checked}
use Rattle.verdicts.specs.declared.Checked.TheVariants.{Missing, Held}
use Rattle.writer.specs.Calls.{WritesSheet}
use Rattle.writer.specs.declared.Wrote.{Wrote}
use Rattle.ribbons_c.specs.declared.plain.RibbonsOrders.{RibbonsOrders}
use Rattle.ribbons_c.specs.declared.plain.RibbonsLaid.{RibbonsLaid}
use Rattle.ribbons_c.specs.declared.plain.RibbonsChecked.{RibbonsChecked}
use Rattle.ribbons_c.specs.declared.plain.RibbonsSheet.{RibbonsSheet}

-- A plain answer r of a call whose contract is meets: the answer that r is read as keeps the contract, and r is its plain
-- form, so that nothing else stands in it.
pub record Tells {A B : Type 0} (meets : A → Type 0) (plain : A → B) (read_as : B → A) (r : B) : Type 0 where
  pub meant : meets (read_as r)
  pub plainly : r ≡ plain (read_as r)

-- An answer is read by its number: 0 stands for no refusal, and any other for the refusal of that number.
abbrev pub answer_by_number : {A : Type 0} → ℕ → A → A → A
answer_by_number zero given refused = given
answer_by_number (suc n) given refused = refused

-- The word of a number. One that has no word, as 14, is read as the last one, whose number is another.
abbrev pub first_words : List Fault
first_words =
    fault.LongFile ∷ fault.BrokenRow ∷ fault.WrongWidth ∷ fault.WrongHeading ∷ fault.BadName ∷ fault.NoBands ∷ fault.LongCode
    ∷ fault.UnknownColour ∷ fault.NameTaken ∷ fault.ListFull ∷ fault.EmptyList ∷ fault.FalseList ∷ fault.ShortBuffer ∷ []

abbrev pub word_of : ℕ → Fault
word_of n = slice_index_or first_words (n - 1) fault.LongRibbon

abbrev pub refusal_by : ℕ → ℕ → Refusal
refusal_by number row = record { fault = word_of number; row = row }

-- Reading an order list. What does not apply is 0, here and below.
abbrev pub plain_read : Result Orders Refusal → RibbonsOrders
plain_read (Ok o) = record { refused = 0; row = 0; codes = o.codes; bands = o.bands; names = o.names }
plain_read (Err r) = record { refused = number_of r.fault; row = r.row; codes = 0; bands = 0; names = 0 }

abbrev pub read_of : RibbonsOrders → Result Orders Refusal
read_of r =
    answer_by_number r.refused (Ok (record { codes = r.codes; bands = r.bands; names = r.names }))
    (Err (refusal_by r.refused r.row))

abbrev pub TellsOrders : (file : List ℕ) (before left : Lent) → RibbonsOrders → Type 0
TellsOrders file before left = Tells (ReadsOrders file before left) plain_read read_of

-- Laying out a ribbon. Its refusals have row 0, here and below.
abbrev pub plain_laid : Result Laid Refusal → RibbonsLaid
plain_laid (Ok l) = record { refused = 0; bands = l.bands; saved = l.saved }
plain_laid (Err r) = record { refused = number_of r.fault; bands = 0; saved = 0 }

abbrev pub laid_of : RibbonsLaid → Result Laid Refusal
laid_of r = answer_by_number r.refused (Ok (record { bands = r.bands; saved = r.saved })) (Err (refusal_by r.refused 0))

abbrev pub TellsLaid : (run ls before after : List ℕ) → RibbonsLaid → Type 0
TellsLaid run ls before after = Tells (LaysRibbon run ls before after) plain_laid laid_of

-- Checking a ribbon without records.
abbrev pub plain_checked : Result Checked Refusal → RibbonsChecked
plain_checked (Ok (Missing k)) = record { refused = 0; held = false; missing = k; difference = pos 0 }
plain_checked (Ok (Held d)) = record { refused = 0; held = true; missing = 0; difference = d }
plain_checked (Err r) = record { refused = number_of r.fault; held = false; missing = 0; difference = pos 0 }

abbrev pub checked_of : RibbonsChecked → Result Checked Refusal
checked_of r =
    answer_by_number r.refused (Ok (pick r.held (Held r.difference) (Missing r.missing))) (Err (refusal_by r.refused 0))

abbrev pub TellsChecked : (run ls row : List ℕ) → RibbonsChecked → Type 0
TellsChecked run ls row = Tells (ChecksAlone run ls row) plain_checked checked_of

-- Writing the sheet.
abbrev pub plain_wrote : Result Wrote Refusal → RibbonsSheet
plain_wrote (Ok w) = record { refused = 0; bytes = w.bytes; saved = w.saved }
plain_wrote (Err r) = record { refused = number_of r.fault; bytes = 0; saved = 0 }

abbrev pub wrote_of : RibbonsSheet → Result Wrote Refusal
wrote_of r = answer_by_number r.refused (Ok (record { bytes = r.bytes; saved = r.saved })) (Err (refusal_by r.refused 0))

abbrev pub TellsSheet : (run ls name_run name_ls before after : List ℕ) → RibbonsSheet → Type 0
TellsSheet run ls name_run name_ls before after =
    Tells (WritesSheet run ls name_run name_ls before after) plain_wrote wrote_of

-- The ribbon's part of a ribbon file: so many bytes at its front, and what they are.
pub record TellsRibbon (file : List ℕ) (r : ℕ) : Type 0 where
  pub long : r ≡ length (ribbon_of_lem file)
  pub front : take r file ≡ ribbon_of_lem file
  pub means : RibbonFile file (take r file)
