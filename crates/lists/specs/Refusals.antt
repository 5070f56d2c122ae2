-- Document 01's table of refusals: the number of each by its word; 0 is none. 14 is retired (M-112) and not to be used again.
use Rattle.std.specs.Prelude.{Bool, true, false, ℕ, zero, suc}

-- files, with the row at fault
abbrev pub long_file_number : ℕ
long_file_number = 1

abbrev pub broken_row_number : ℕ
broken_row_number = 2

abbrev pub wrong_width_number : ℕ
wrong_width_number = 3

abbrev pub wrong_heading_number : ℕ
wrong_heading_number = 4

abbrev pub bad_name_number : ℕ
bad_name_number = 5

abbrev pub no_bands_number : ℕ
no_bands_number = 6

abbrev pub long_code_number : ℕ
long_code_number = 7

abbrev pub unknown_colour_number : ℕ
unknown_colour_number = 8

abbrev pub name_taken_number : ℕ
name_taken_number = 9

abbrev pub list_full_number : ℕ
list_full_number = 10

abbrev pub empty_list_number : ℕ
empty_list_number = 11

-- lists, buffers and supplied ribbons
abbrev pub false_list_number : ℕ
false_list_number = 12

abbrev pub short_buffer_number : ℕ
short_buffer_number = 13

abbrev pub long_ribbon_number : ℕ
long_ribbon_number = 15

-- A refusal carries its number and a row. The row counts from 1, the heading being row 1; it is 0 where no row is meant.
pub record Refusal : Type 0 where
  pub number : ℕ
  pub row : ℕ

abbrev pub refusal : ℕ → ℕ → Refusal
refusal n r = record { number = n; row = r }

-- of the whole input
abbrev pub whole : ℕ → Refusal
whole n = refusal n 0

-- the number n under its condition, and the first of two numbers that is given
abbrev pub when : Bool → ℕ → ℕ
when true n = n
when false n = 0

abbrev pub first_of : ℕ → ℕ → ℕ
first_of zero b = b
first_of (suc a) b = suc a
