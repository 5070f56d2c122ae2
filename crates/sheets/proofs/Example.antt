-- Document 01's worked example: the sheet of Pump, Fan and Lamp, byte for byte. Ours is this text, and so the claim
-- holds of it, on the ribbon that the example gives. And a sheet with codes that look alike from both ends.
use mathlib.Core.Path.{◌≡◌, refl, subst}
use mathlib.Core.Bool.{true}
use mathlib.Core.List.{List, [], ◌∷◌}
use Prim.Native.Nat.{ℕ}
use native.Mathlib.Omega.{arith}
use Rattle.words.specs.Tests.{same}
use Rattle.words.specs.Turn.{turned}
use Rattle.words.specs.Texts.{text}
use Rattle.words.proofs.Tests.{same_eq}
use Rattle.greedy.specs.Layout.{ribbon_for}
use Rattle.sheets.specs.Sheet.{SheetFor, sheet_text_lem}
use Rattle.sheets.proofs.Sheet.{sheet_ours}

abbrev names : List (List ℕ)
names = text "Pump" ∷ text "Fan" ∷ text "Lamp" ∷ []

abbrev codes : List (List ℕ)
codes = text "AABB" ∷ text "AAAC" ∷ text "ABBB" ∷ []

abbrev sheet : List ℕ
sheet = text "name,way,start,bands,places\r\nPump,given,2,AABB,1\r\nFan,turned,0,CAAA,1\r\nLamp,given,3,ABBB,1\r\n"

to_the_byte : same (sheet_text_lem names codes) sheet ≡ true
unfolding turned
to_the_byte = refl

pub worked_example : sheet_text_lem names codes ≡ sheet
worked_example = same_eq (sheet_text_lem names codes) sheet to_the_byte

to_the_band : same (ribbon_for turned codes) (text "CAAABBB") ≡ true
unfolding turned
to_the_band = refl

pub example_meets : SheetFor names codes (text "CAAABBB") sheet
example_meets =
    let e = same_eq (ribbon_for turned codes) (text "CAAABBB") to_the_band in
    subst (λ (r : List ℕ). SheetFor names codes r sheet) e
    (subst (SheetFor names codes (ribbon_for turned codes)) worked_example (sheet_ours names codes refl (omega arith)))

-- ABA and ACA look alike; BA stands turned before it stands as given.
abbrev alike_names : List (List ℕ)
alike_names = text "P" ∷ text "Q" ∷ text "R" ∷ []

abbrev alike_codes : List (List ℕ)
alike_codes = text "ABA" ∷ text "ACA" ∷ text "BA" ∷ []

abbrev alike_sheet : List ℕ
alike_sheet = text "name,way,start,bands,places\r\nP,either,0,ABA,1\r\nQ,either,2,ACA,1\r\nR,turned,0,AB,2\r\n"

alike_to_the_byte : same (sheet_text_lem alike_names alike_codes) alike_sheet ≡ true
unfolding turned
alike_to_the_byte = refl

pub alike_example : sheet_text_lem alike_names alike_codes ≡ alike_sheet
alike_example = same_eq (sheet_text_lem alike_names alike_codes) alike_sheet alike_to_the_byte
