-- What is demanded, of the rules, in three records: each definition meets the claim that pins it, nothing else does, and
-- the three demands follow.
use Rattle.std.specs.Prelude.{◌≡◌, Bool, true, List, ℕ, ◌+◌, ◌*◌, ◌≤◌, ◌<◌, ℤ, length, Result, Ok}
use Rattle.words.specs.Lists.{Each}
use Rattle.words.specs.Turn.{turned, Turning, Turns}
use Rattle.words.specs.Stand.{StandsSomeWay}
use Rattle.words.specs.Overlap.{Overlaps, overlap}
use Rattle.words.specs.Falling.{Holds, FallsBack, held_after, fall_back}
use Rattle.words.specs.Place.{Place, NoTie, Finds, place_of}
use Rattle.words.specs.Count.{Counts, count_of}
use Rattle.lists.specs.Runs.{codes_in, total, lengths, over}
use Rattle.lists.specs.Rules.{Band, Printed, ChecksCodes, ChecksNames}
use Rattle.lists.specs.declared.numbers.Refusal.{Refusal}
use Rattle.lists.specs.Fit.{list_ok_lem, names_ok_lem}
use Rattle.grammar.specs.Files.{Orders}
use Rattle.grammar.specs.Grammar.{Meets}
use Rattle.grammar.specs.Orders.{read_orders_lem}
use Rattle.grammar.specs.Answers.{Lent, ReadOutcome, Serves, read_outcome}
use Rattle.grammar.specs.HandsOn.{Hands-on}
use Rattle.grammar.specs.Quoting.{Writes, field_text}
use Rattle.grammar.specs.RibbonFile.{Takes, ribbon_of_lem}
use Rattle.joins.specs.Faces.{Join}
use Rattle.joins.specs.Rules.{Chosen, Largest, Joiner}
use Rattle.joins.specs.Ends.{AlwaysAllowed, AlwaysEnd}
use Rattle.joins.specs.Rounds.{layout_of}
use Rattle.greedy.specs.Dropping.{Keeper, kept}
use Rattle.greedy.specs.Rules.{Lays, AllStand, AtMostTwice}
use Rattle.greedy.specs.Layout.{ribbon_for, saved_by}
use Rattle.greedy.specs.Answers.{LayOutcome, laid, LaysOut, lay_outcome}
use Rattle.greedy.specs.Starred.{Starred}
use Rattle.layout.specs.Calls.{LaysRibbon}
use Rattle.layout.specs.Laid.{Laid}
use Rattle.sheets.specs.Sheet.{SheetFor}
use Rattle.sheets.specs.Answers.{SheetOutcome, written, Sheets, sheet_for, sheet_outcome}
use Rattle.sheets.specs.ReadBack.{ReadsBack}
use Rattle.writer.specs.Calls.{WritesSheet}
use Rattle.writer.specs.declared.Wrote.{Wrote}
use Rattle.checking.specs.Check.{Misses, missing_on}
use Rattle.checking.specs.Check as check
use Rattle.checking.specs.Answers.{PlaceRecord, CheckOutcome, Fit, Checks, check_outcome}
use Rattle.verdicts.specs.Calls.{ChecksRibbon}
use Rattle.places.specs.declared.Place as declared
use Rattle.verdicts.specs.declared.Checked.{Checked}
use Rattle.verdicts.specs.declared.Checked.TheVariants.{Missing, Held}
use Rattle.programs.specs.Programs.{ribbon_output_lem, sheet_output_lem, check_output_lem}
use Rattle.programs.specs.Prints.{RibbonProgram, SheetProgram, CheckProgram}
use Rattle.numbers.specs.Numbers.{Numbers}

-- Each definition meets the claim that pins it.
pub record Pinned : Type 0 where
  pub turning : Turns turned
  pub overlaps : Overlaps overlap
  pub passes : Holds held_after
  pub fall_backs : FallsBack fall_back
  pub places : Finds turned (place_of turned)
  pub counts : Counts turned (count_of turned)
  pub codes : ChecksCodes list_ok_lem
  pub names : ChecksNames names_ok_lem
  pub files : Meets read_orders_lem
  pub ribbon_files : Takes ribbon_of_lem
  pub dropping : Keeper (StandsSomeWay turned) (kept turned)
  pub joining : Joiner layout_of
  pub ribbons : (cs : List (List ℕ)) → Lays Chosen turned cs (ribbon_for turned cs) (saved_by turned cs)
  pub searching : Misses turned (missing_on turned)
  pub reading : Serves read_outcome
  pub laying : LaysOut lay_outcome
  pub checking : Checks check_outcome
  pub quoting : Writes field_text
  pub sheets : Sheets sheet_outcome
  pub ribbon_program : RibbonProgram ribbon_output_lem
  pub sheet_program : SheetProgram sheet_output_lem
  pub check_program : CheckProgram check_output_lem
  -- document 01's starred ribbons
  pub starred : Starred

-- Nothing else does: whatever meets a claim gives what ours gives on every input.
pub record NoFreedom : Type 0 where
  pub turning : (turn : List ℕ → List ℕ) → Turns turn → (c : List ℕ) → turn c ≡ turned c
  pub overlaps : (w : List ℕ → List ℕ → ℕ) → Overlaps w → (a b : List ℕ) → w a b ≡ overlap a b
  pub passes : (held : List ℕ → List ℕ → ℕ → ℕ) → Holds held → (a b : List ℕ) (i : ℕ) → i ≤ length a
      → held a b i ≡ held_after a b i
  pub fall_backs : (back : List ℕ → ℕ → ℕ) → FallsBack back → (b : List ℕ) (k : ℕ) → 0 < k → k ≤ length b
      → back b k ≡ fall_back b k
  pub places : (find : ℕ → List ℕ → List ℕ → Place) → Finds turned find → (k : ℕ) (c s : List ℕ)
      → find k c s ≡ place_of turned k c s
  pub counts : (count : List ℕ → List ℕ → ℕ) → Counts turned count → (c s : List ℕ) → count c s ≡ count_of turned c s
  pub codes : (ok : List ℕ → List ℕ → Bool) → ChecksCodes ok → (run ls : List ℕ) → ok run ls ≡ list_ok_lem run ls
  pub names : (ok : ℕ → List ℕ → List ℕ → Bool) → ChecksNames ok → (count : ℕ) (run ls : List ℕ)
      → ok count run ls ≡ names_ok_lem count run ls
  pub files : (read : List ℕ → Orders) → Meets read → (s : List ℕ) → read s ≡ read_orders_lem s
  pub ribbon_files : (out : List ℕ → List ℕ) → Takes out → (s : List ℕ) → out s ≡ ribbon_of_lem s
  pub dropping : (keep : List (List ℕ) → List (List ℕ)) → Keeper (StandsSomeWay turned) keep → (cs : List (List ℕ))
      → keep cs ≡ kept turned cs
  pub joining : (make : ℕ → (ℕ → ℕ → ℕ) → List Join) → Joiner make → (n : ℕ) (w : ℕ → ℕ → ℕ)
      → make n w ≡ layout_of n w
  pub ribbons : (cs : List (List ℕ)) (ribbon : List ℕ) (saved : ℕ) → Lays Chosen turned cs ribbon saved
      → (ribbon ≡ ribbon_for turned cs) × (saved ≡ saved_by turned cs)
  pub searching : (search : List (List ℕ) → List ℕ → check.Missing) → Misses turned search → (cs : List (List ℕ)) (row : List ℕ)
      → search cs row ≡ missing_on turned cs row
  pub reading : (call : List ℕ → Lent → ReadOutcome) → Serves call → (s : List ℕ) (b : Lent) → call s b ≡ read_outcome s b
  pub laying : (call : List ℕ → List ℕ → List ℕ → LayOutcome) → LaysOut call → (run ls buffer : List ℕ)
      → call run ls buffer ≡ lay_outcome run ls buffer
  pub checking : (call : List ℕ → List ℕ → List ℕ → List PlaceRecord → CheckOutcome) → Checks call
      → (run ls row : List ℕ) (records : List PlaceRecord) → call run ls row records ≡ check_outcome run ls row records
  pub quoting : (write : List ℕ → List ℕ) → Writes write → (c : List ℕ) → Each Printed c → write c ≡ field_text c
  pub sheets : (call : List ℕ → List ℕ → List ℕ → List ℕ → List ℕ → SheetOutcome) → Sheets call
      → (run ls name_run name_ls buffer : List ℕ)
      → call run ls name_run name_ls buffer ≡ sheet_outcome run ls name_run name_ls buffer
  pub ribbon_program : (program : List ℕ → List ℕ) → RibbonProgram program → (list : List ℕ)
      → program list ≡ ribbon_output_lem list
  pub sheet_program : (program : List ℕ → List ℕ) → SheetProgram program → (list : List ℕ)
      → program list ≡ sheet_output_lem list
  pub check_program : (program : List ℕ → List ℕ → List ℕ) → CheckProgram program → (list file : List ℕ)
      → program list file ≡ check_output_lem list file

-- Demand 3, one claim over all lists and rivals. If laying out a list answers with saved, then for whatever row somebody
-- else holds, of any length, on which every code of the list stands, the lengths of the kept codes, added up, are at most
-- that row's length plus twice that saved.
abbrev pub Demand3 : Type 0
Demand3 =
    (run ls buffer : List ℕ) (bands saved : ℕ) → (lay_outcome run ls buffer).answer ≡ laid bands saved
    → (rival : List ℕ) → AllStand turned (codes_in run ls) rival
    → total (lengths (kept turned (codes_in run ls))) ≤ length rival + 2 * saved

-- The same of the call itself, whatever it does inside: all that is known is what lay_ribbon promises.
abbrev pub Demand3OfCall : Type 0
Demand3OfCall =
    (run ls before after : List ℕ) (laid : Laid) → LaysRibbon run ls before after (Ok laid)
    → (rival : List ℕ) → AllStand turned (codes_in run ls) rival
    → total (lengths (kept turned (codes_in run ls))) ≤ length rival + 2 * laid.saved

-- Demand 2 of the check itself: it answers held exactly when every code stands on a ribbon that is not refused, where there
-- is room for the records.
pub record PassesExactly : Type 0 where
  pub held_stands : (run ls row : List ℕ) (before after : List declared.Place) (d : ℤ)
      → ChecksRibbon run ls row before after (Ok (Held d)) → AllStand turned (codes_in run ls) row
  pub missing_stands_not : (run ls row : List ℕ) (before after : List declared.Place) (k : ℕ)
      → ChecksRibbon run ls row before after (Ok (Missing k)) → AllStand turned (codes_in run ls) row → ⊥
  pub stands_held : (run ls row : List ℕ) (before after : List declared.Place) (r : Result Checked Refusal) → Fit run ls row
      → AllStand turned (codes_in run ls) row → length ls ≤ length before → ChecksRibbon run ls row before after r
      → (d : ℤ) × (r ≡ Ok (Held d))

-- Demand 2 of the sheet itself, and demand 3 of the saved that comes with it: what is written is a sheet of the ribbon that
-- is laid out by the rules, so that each place on it is true; read back, it gives the names and places of all codes.
pub record SheetIs (run ls name_run name_ls before after : List ℕ) (bytes saved : ℕ) : Type 0 where
  pub ribbon : List ℕ
  pub sheet : List ℕ
  pub is_long : length sheet ≡ bytes
  pub written : after ≡ over sheet before
  pub by_rule : Lays Chosen turned (codes_in run ls) ribbon saved
  pub shows : SheetFor (codes_in name_run name_ls) (codes_in run ls) ribbon sheet
  pub read_back : ReadsBack (codes_in name_run name_ls) (codes_in run ls) ribbon sheet
  pub at_most_twice : AtMostTwice turned (codes_in run ls) saved

abbrev pub SheetIsTrue : Type 0
SheetIsTrue =
    (run ls name_run name_ls before after : List ℕ) (wrote : Wrote)
    → WritesSheet run ls name_run name_ls before after (Ok wrote)
    → SheetIs run ls name_run name_ls before after wrote.bytes wrote.saved

pub record Demands : Type 0 where
  -- 1. Nothing unfit is accepted, and what is refused leaves lent memory untouched: `reading`, `laying`, `checking` and
  -- `sheets` of the records above. A fit list is accepted, into a buffer of 8,192 bytes, its sheet into one of 17,181.
  -- While several pieces remain some join is allowed, so that rounds end. No call answers by another number than those of
  -- its list, and no program writes one; 14 is in none. What reading hands on is fit.
  pub pinned : Pinned
  pub no_freedom : NoFreedom
  pub accepted : (run ls buffer : List ℕ) → list_ok_lem run ls ≡ true → 8192 ≤ length buffer
      → (lay_outcome run ls buffer).answer
      ≡ laid (length (ribbon_for turned (codes_in run ls))) (saved_by turned (codes_in run ls))
  pub accepted_sheet : (run ls name_run name_ls buffer : List ℕ) → list_ok_lem run ls ≡ true
      → names_ok_lem (length ls) name_run name_ls ≡ true → 17181 ≤ length buffer
      → (sheet_outcome run ls name_run name_ls buffer).answer
      ≡ written (length (sheet_for run ls name_run name_ls)) (saved_by turned (codes_in run ls))
  pub always_allowed : AlwaysAllowed
  pub rounds_end : AlwaysEnd
  pub numbers : Numbers
  pub hands_on : Hands-on
  -- 2. The ribbon is the one of Greedy-R2 with our tie rule: `ribbons` above. Every listed code stands on it one way or the
  -- other; its bands and the bands saved add up to those of the kept codes. A supplied ribbon passes exactly when every
  -- code stands on it, and each place on the sheet is true: `checking` and `sheets` above; read back, a sheet gives them. Where
  -- both ways stand at one start, the code is equal to its turned form, so that no rule has to choose between the ways.
  pub all_stand : (cs : List (List ℕ)) → AllStand turned cs (ribbon_for turned cs)
  pub adds_up : (cs : List (List ℕ))
      → length (ribbon_for turned cs) + saved_by turned cs ≡ total (lengths (kept turned cs))
  pub passes_exactly : PassesExactly
  pub no_tie : (turn : List ℕ → List ℕ) → Turning turn → NoTie turn
  pub sheet_is_true : SheetIsTrue
  pub reads_back : (names codes : List (List ℕ)) (ribbon sheet : List ℕ) → SheetFor names codes ribbon sheet
      → Each (Each Printed) names → Each (Each Band) codes → ReadsBack names codes ribbon sheet
  -- 3. The bound, of our answer and of the call; and of every run of largest joins, whoever settles the ties, for every way
  -- of turning.
  pub at_most_twice : Demand3
  pub of_the_call : Demand3OfCall
  pub any_ties : (turn : List ℕ → List ℕ) → Turning turn → (cs : List (List ℕ)) (ribbon : List ℕ) (saved : ℕ)
      → Lays Largest turn cs ribbon saved → AtMostTwice turn cs saved
