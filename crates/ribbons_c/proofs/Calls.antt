-- No answer is lost in its plain form: the number of a refusal is above 0 and has one word, and its row is 0 but for order
-- lists. So the plain form of an answer that keeps a contract is read as that answer.
use Rattle.std.proofs.Common.{◌≡◌, refl, sym, ap, subst, ◌∙◌, true, List, ℕ, zero, suc, ◌≤◌, ◌<◌, arith, length, take, Result, Ok, Err}
use lib.IntN.{ℤ}
use lib.Seq.{take_at, take-length}
use Rattle.lists.specs.Answers.{number_of}
use Rattle.lists.specs.declared.numbers.Fault.{Fault}
use Rattle.lists.specs.declared.numbers.Refusal.{Refusal}
use Rattle.lists.proofs.Table.{some_number}
use Rattle.grammar.specs.Answers.{Lent}
use Rattle.grammar.specs.Files.{line_break}
use Rattle.grammar.specs.RibbonFile.{RibbonFile, ended, not_ended, ribbon_of_lem}
use Rattle.grammar.proofs.RibbonFile.{takes_ours}
use Rattle.orders.specs.Calls.{ReadsOrders}
use Rattle.orders.specs.declared.Orders.{Orders}
use Rattle.greedy.specs.Answers.{LayAnswer, LayOutcome, LaysInto}
use Rattle.greedy.specs.Answers as lays
use Rattle.layout.specs.Calls.{LaysRibbon}
use Rattle.layout.specs.Laid.{Laid}
use Rattle.checking.specs.Answers.{CheckAnswer, CheckOutcome, PlaceRecord, ChecksInto}
use Rattle.checking.specs.Answers as checks
use Rattle.places.specs.Calls.{blanks}
use Rattle.verdicts.specs.Calls.{ChecksAlone}
use Rattle.verdicts.specs.declared.Checked.{Checked}
use Rattle.verdicts.specs.declared.Checked.TheVariants.{Missing, Held}
use Rattle.sheets.specs.Answers.{SheetAnswer, SheetOutcome, SheetsInto}
use Rattle.sheets.specs.Answers as sheets
use Rattle.writer.specs.Calls.{WritesSheet}
use Rattle.writer.specs.declared.Wrote.{Wrote}
use Rattle.ribbons_c.specs.Calls.{Tells, answer_by_number, word_of, refusal_by, plain_read, read_of, TellsOrders, plain_laid, laid_of, TellsLaid}
use Rattle.ribbons_c.specs.Calls.{plain_checked, checked_of, TellsChecked, plain_wrote, wrote_of, TellsSheet, TellsRibbon}

-- the plain form r of an answer x
pub tells : {A B : Type 0} {meets : A → Type 0} {plain : A → B} {read_as : B → A} {x : A} {r : B}
    → ((a : A) → meets a → read_as (plain a) ≡ a) → meets x → r ≡ plain x → Tells meets plain read_as r
tells {meets = meets} {plain} {read_as} {x} kept m t =
    let z = ap read_as t ∙ kept x m in
    record { meant = subst meets (sym z) m; plainly = t ∙ sym (ap plain z) }

pub by_number : {A : Type 0} (n : ℕ) (given refused : A) → 0 < n → answer_by_number n given refused ≡ refused
by_number zero given refused p = absurd (omega arith)
by_number (suc n) given refused p = refl

-- a refusal, read by its number
word_back : (f : Fault) → word_of (number_of f) ≡ f
word_back f = grind arith

refusal_back : {T : Type 0} (given : Result T Refusal) (r : Refusal)
    → answer_by_number (number_of r.fault) given (Err (refusal_by (number_of r.fault) r.row)) ≡ Err r
refusal_back given r =
    by_number (number_of r.fault) given _ (some_number r.fault)
    ∙ ap (λ (f : Fault). Err (record { fault = f; row = r.row })) (word_back r.fault)

whole_back : {T : Type 0} (given : Result T Refusal) (r : Refusal) → r.row ≡ 0
    → answer_by_number (number_of r.fault) given (Err (refusal_by (number_of r.fault) 0)) ≡ Err r
whole_back given r e =
    subst (λ (l : ℕ). answer_by_number (number_of r.fault) given (Err (refusal_by (number_of r.fault) l)) ≡ Err r) e
    (refusal_back given r)

-- Reading an order list.
pub read_back : {file : List ℕ} {before left : Lent} (a : Result Orders Refusal) → ReadsOrders file before left a
    → read_of (plain_read a) ≡ a
read_back (Ok o) m = refl
read_back (Err r) m = refusal_back _ r

pub tells_orders : (file : List ℕ) (before : Lent) {left : Lent} {x y : Result Orders Refusal} → x ≡ y
    → ReadsOrders file before left x → TellsOrders file before left (plain_read y)
tells_orders file before e m = tells read_back (subst (ReadsOrders file before _) e m) refl

-- Laying out a ribbon.
abbrev WholeLay : LayAnswer → Type 0
WholeLay (lays.refused r) = r.row ≡ 0
WholeLay (lays.laid bands saved) = Unit {0}

whole_lay : {run ls before : List ℕ} {o : LayOutcome} → LaysInto run ls before o → WholeLay o.answer
whole_lay (lays.false_list f) = refl
whole_lay (lays.short_buffer f l s) = refl
whole_lay (lays.filled f l s) = tt

pub laid_back : {run ls before after : List ℕ} (a : Result Laid Refusal) → LaysRibbon run ls before after a
    → laid_of (plain_laid a) ≡ a
laid_back (Ok l) m = refl
laid_back (Err r) m = whole_back _ r (whole_lay m.means)

pub tells_laid : (run ls before : List ℕ) {after : List ℕ} {x y : Result Laid Refusal} → x ≡ y
    → LaysRibbon run ls before after x → TellsLaid run ls before after (plain_laid y)
tells_laid run ls before e m = tells laid_back (subst (LaysRibbon run ls before _) e m) refl

-- Checking a ribbon.
abbrev WholeCheck : CheckAnswer → Type 0
WholeCheck (checks.refused r) = r.row ≡ 0
WholeCheck (checks.missing_code k) = Unit {0}
WholeCheck (checks.held d) = Unit {0}

whole_check : {run ls row : List ℕ} {records : List PlaceRecord} {o : CheckOutcome} → ChecksInto run ls row records o
    → WholeCheck o.answer
whole_check (checks.false_list f) = refl
whole_check (checks.long_ribbon f l) = refl
whole_check (checks.no_colour f l b) = refl
whole_check (checks.no_place f m) = tt
whole_check (checks.short_buffer f a s) = refl
whole_check (checks.filled rs f a l o d r) = tt

enough : 128 ≤ length blanks
unfolding blanks
enough = omega arith

pub checked_back : {run ls row : List ℕ} (a : Result Checked Refusal) → ChecksAlone run ls row a
    → checked_of (plain_checked a) ≡ a
checked_back (Ok (Missing k)) m = refl
checked_back (Ok (Held d)) m = refl
checked_back (Err r) m = whole_back _ r (whole_check (m.checks blanks enough).means)

pub tells_checked : (run ls row : List ℕ) {x y : Result Checked Refusal} → x ≡ y → ChecksAlone run ls row x
    → TellsChecked run ls row (plain_checked y)
tells_checked run ls row e m = tells checked_back (subst (ChecksAlone run ls row) e m) refl

-- the difference, through the machine's number
pub tells_held : (run ls row : List ℕ) {x : Result Checked Refusal} {d z : ℤ} → x ≡ Ok (Held d) → z ≡ d
    → ChecksAlone run ls row x
    → TellsChecked run ls row (record { refused = 0; held = true; missing = 0; difference = z })
tells_held run ls row e f m =
    tells checked_back (subst (ChecksAlone run ls row) e m) (ap (λ (d : ℤ). plain_checked (Ok (Held d))) f)

-- Writing the sheet.
abbrev WholeSheet : SheetAnswer → Type 0
WholeSheet (sheets.refused r) = r.row ≡ 0
WholeSheet (sheets.written bytes saved) = Unit {0}

whole_sheet : {run ls name_run name_ls before : List ℕ} {o : SheetOutcome} → SheetsInto run ls name_run name_ls before o
    → WholeSheet o.answer
whole_sheet (sheets.false_list f) = refl
whole_sheet (sheets.short_buffer f s l) = refl
whole_sheet (sheets.filled f s l) = tt

pub wrote_back : {run ls name_run name_ls before after : List ℕ} (a : Result Wrote Refusal)
    → WritesSheet run ls name_run name_ls before after a → wrote_of (plain_wrote a) ≡ a
wrote_back (Ok w) m = refl
wrote_back (Err r) m = whole_back _ r (whole_sheet m.means)

pub tells_sheet : (run ls name_run name_ls before : List ℕ) {after : List ℕ} {x y : Result Wrote Refusal} → x ≡ y
    → WritesSheet run ls name_run name_ls before after x
    → TellsSheet run ls name_run name_ls before after (plain_wrote y)
tells_sheet run ls name_run name_ls before e m =
    tells wrote_back (subst (WritesSheet run ls name_run name_ls before _) e m) refl

-- The ribbon stands at the front of its file.
front_of : {s r : List ℕ} → RibbonFile s r → take (length r) s ≡ r
front_of (ended {r} e) = ap (take (length r)) e ∙ take_at r line_break (length r) refl
front_of {s} (not_ended n) = take-length s

pub tells_ribbon : (file : List ℕ) {part : List ℕ} → part ≡ ribbon_of_lem file → TellsRibbon file (length part)
tells_ribbon file {part} e =
    let m = takes_ours file in
    let f : take (length part) file ≡ ribbon_of_lem file = ap (λ (p : List ℕ). take (length p) file) e ∙ front_of m in
    record { long = ap length e; front = f; means = subst (RibbonFile file) (sym f) m }
