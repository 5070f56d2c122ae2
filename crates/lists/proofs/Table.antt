-- Document 01's table: the words in its order have the numbers 1 to 13 and 15, 14 being retired, and a refusal of the whole
-- input has row 0. Computed.
use mathlib.Core.Path.{◌≡◌, refl}
use mathlib.Core.List.{[], ◌∷◌}
use native.Mathlib.Omega.{arith}
use Prim.Native.Nat.{ℕ, ◌<◌}
use Rattle.lists.specs.Refusals.{whole, long_file_number, broken_row_number, wrong_width_number, wrong_heading_number, bad_name_number, no_bands_number, long_code_number}
use Rattle.lists.specs.Refusals.{unknown_colour_number, name_taken_number, list_full_number, empty_list_number, false_list_number, short_buffer_number, long_ribbon_number}
use Rattle.lists.specs.Answers.{number_of, refusal_of}
use Rattle.lists.specs.declared.numbers.Fault.{Fault}
use Rattle.lists.specs.declared.numbers.Refusal as declared

pub table : long_file_number ∷ broken_row_number ∷ wrong_width_number ∷ wrong_heading_number ∷ bad_name_number ∷ no_bands_number ∷ long_code_number ∷ unknown_colour_number ∷ name_taken_number ∷ list_full_number
    ∷ empty_list_number ∷ false_list_number ∷ short_buffer_number ∷ long_ribbon_number ∷ []
    ≡ 1 ∷ 2 ∷ 3 ∷ 4 ∷ 5 ∷ 6 ∷ 7 ∷ 8 ∷ 9 ∷ 10 ∷ 11 ∷ 12 ∷ 13 ∷ 15 ∷ []
table = refl

-- a refusal's number and row
pub of_whole : (n : ℕ) → ((whole n).number ≡ n) × ((whole n).row ≡ 0)
of_whole n = (refl, refl)

pub of_answer : (r : declared.Refusal) → ((refusal_of r).number ≡ number_of r.fault) × ((refusal_of r).row ≡ r.row)
of_answer r = (refl, refl)

-- No word's number is 0, so a test tells 0 only where it finds no fault.
pub some_number : (f : Fault) → 0 < number_of f
some_number f = grind arith
