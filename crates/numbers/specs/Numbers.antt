-- By which numbers each public call can refuse, from the calls' contracts alone, and what each program can print. README's
-- table of the calls has the same lists. 14 is in none of them: the number is retired (M-112) and stays unused.
use Rattle.std.specs.Prelude.{List, [], ◌∷◌, ◌++◌, ℕ, take, Err}
use Rattle.words.specs.Lists.{In}
use Rattle.lists.specs.Refusals.{long_file_number, broken_row_number, wrong_width_number, wrong_heading_number}
use Rattle.lists.specs.Refusals.{bad_name_number, no_bands_number, long_code_number, unknown_colour_number}
use Rattle.lists.specs.Refusals.{name_taken_number, list_full_number, empty_list_number, false_list_number, short_buffer_number, long_ribbon_number}
use Rattle.lists.specs.Answers.{number_of}
use Rattle.lists.specs.declared.numbers.Refusal.{Refusal}
use Rattle.grammar.specs.Answers.{Lent}
use Rattle.orders.specs.Calls.{ReadsOrders}
use Rattle.layout.specs.Calls.{LaysRibbon}
use Rattle.places.specs.declared.Place.{Place}
use Rattle.verdicts.specs.Calls.{ChecksRibbon, ChecksInRoom, ChecksAlone}
use Rattle.writer.specs.Calls.{WritesSheet}
use Rattle.programs.specs.Programs.{WritesOver, ribbon_output_lem, sheet_output_lem, check_output_lem}
use Rattle.programs.specs.Prints.{RefusedLine}

-- the public calls that can refuse, and those that print what a program writes
pub data Call : Type 0 where
  read_orders : Call
  lay_ribbon : Call
  check_ribbon : Call
  check_places : Call
  check_only : Call
  write_sheet : Call
  ribbon_output : Call
  sheet_output : Call
  check_output : Call

-- A call refuses by a number: for some input and lent memory, an answer that keeps its contract is a refusal that carries
-- the number, or what is printed is the line of one.
pub data Refuses : Call → ℕ → Type 0 where
  reading : {file : List ℕ} {before left : Lent} {r : Refusal} → ReadsOrders file before left (Err r)
      → Refuses read_orders (number_of r.fault)
  laying : {run ls before after : List ℕ} {r : Refusal} → LaysRibbon run ls before after (Err r)
      → Refuses lay_ribbon (number_of r.fault)
  checking : {run ls row : List ℕ} {before after : List Place} {r : Refusal}
      → ChecksRibbon run ls row before after (Err r) → Refuses check_ribbon (number_of r.fault)
  in_room : {run ls row : List ℕ} {room due : ℕ} {all : List Place} {r : Refusal}
      → ChecksInRoom run ls row room (Err r) due all → Refuses check_places (number_of r.fault)
  alone : {run ls row : List ℕ} {r : Refusal} → ChecksAlone run ls row (Err r)
      → Refuses check_only (number_of r.fault)
  writing : {run ls name_run name_ls before after : List ℕ} {r : Refusal}
      → WritesSheet run ls name_run name_ls before after (Err r) → Refuses write_sheet (number_of r.fault)
  printing_ribbon : (list : List ℕ) {before after : List ℕ} {r n row : ℕ} → WritesOver (ribbon_output_lem list) before after r
      → RefusedLine n row (take r after) → Refuses ribbon_output n
  printing_sheet : (list : List ℕ) {before after : List ℕ} {r n row : ℕ} → WritesOver (sheet_output_lem list) before after r
      → RefusedLine n row (take r after) → Refuses sheet_output n
  printing_check : (list file : List ℕ) {before after : List ℕ} {r n row : ℕ} → WritesOver (check_output_lem list file) before after r
      → RefusedLine n row (take r after) → Refuses check_output n

-- the numbers of an order list
abbrev pub list_numbers : List ℕ
list_numbers =
    long_file_number ∷ broken_row_number ∷ wrong_width_number ∷ wrong_heading_number ∷ bad_name_number ∷ no_bands_number
    ∷ long_code_number ∷ unknown_colour_number ∷ name_taken_number ∷ list_full_number ∷ empty_list_number ∷ []

-- and of each call
abbrev pub numbers_of : Call → List ℕ
numbers_of read_orders = list_numbers ++ (short_buffer_number ∷ [])
numbers_of lay_ribbon = false_list_number ∷ short_buffer_number ∷ []
numbers_of check_ribbon = false_list_number ∷ long_ribbon_number ∷ unknown_colour_number ∷ short_buffer_number ∷ []
numbers_of check_places = false_list_number ∷ long_ribbon_number ∷ unknown_colour_number ∷ short_buffer_number ∷ []
numbers_of check_only = false_list_number ∷ long_ribbon_number ∷ unknown_colour_number ∷ []
numbers_of write_sheet = false_list_number ∷ short_buffer_number ∷ []
numbers_of ribbon_output = list_numbers
numbers_of sheet_output = list_numbers
numbers_of check_output = list_numbers ++ (long_ribbon_number ∷ unknown_colour_number ∷ [])

-- The claim: whatever a call is handed, it refuses by no other number than its own, and none by 14.
abbrev pub Only : Type 0
Only = (call : Call) (n : ℕ) → Refuses call n → In n (numbers_of call)

abbrev pub Retired : Type 0
Retired = (call : Call) → Refuses call 14 → ⊥

pub record Numbers : Type 0 where
  pub only : Only
  pub retired : Retired
