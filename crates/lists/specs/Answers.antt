-- The refusal of document 01's table that an answer of ours carries.
use Rattle.std.specs.Prelude.{ℕ, Result, Ok, Err}
use Rattle.lists.specs.Refusals.{Refusal, refusal, long_file_number, broken_row_number, wrong_width_number, wrong_heading_number, bad_name_number}
use Rattle.lists.specs.Refusals.{no_bands_number, long_code_number, unknown_colour_number, name_taken_number, list_full_number, empty_list_number}
use Rattle.lists.specs.Refusals.{false_list_number, short_buffer_number, long_ribbon_number}
use Rattle.lists.specs.declared.numbers.Fault.{Fault}
use Rattle.lists.specs.declared.numbers.Fault.TheVariants as fault
use Rattle.lists.specs.declared.numbers.Refusal as declared

-- the number of each word
abbrev pub number_of : Fault → ℕ
number_of fault.LongFile = long_file_number
number_of fault.BrokenRow = broken_row_number
number_of fault.WrongWidth = wrong_width_number
number_of fault.WrongHeading = wrong_heading_number
number_of fault.BadName = bad_name_number
number_of fault.NoBands = no_bands_number
number_of fault.LongCode = long_code_number
number_of fault.UnknownColour = unknown_colour_number
number_of fault.NameTaken = name_taken_number
number_of fault.ListFull = list_full_number
number_of fault.EmptyList = empty_list_number
number_of fault.FalseList = false_list_number
number_of fault.ShortBuffer = short_buffer_number
number_of fault.LongRibbon = long_ribbon_number

-- its number and its row
abbrev pub refusal_of : declared.Refusal → Refusal
refusal_of r = refusal (number_of r.fault) r.row

-- the number that a test tells, 0 where it finds no fault
abbrev pub number_told : {T : Type 0} → Result T Fault → ℕ
number_told (Ok x) = 0
number_told (Err f) = number_of f
