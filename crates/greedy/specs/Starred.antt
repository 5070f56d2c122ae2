-- Document 01's starred ribbons by hand, one table and one statement over it.
use Rattle.std.specs.Prelude.{List, [], ◌∷◌, ℕ}
use Rattle.words.specs.Lists.{Each}
use Rattle.words.specs.Turn.{turned}
use Rattle.words.specs.Texts.{text}
use Rattle.joins.specs.Rules.{Chosen}
use Rattle.greedy.specs.Rules.{Lays}

pub record ByHand : Type 0 where
  pub codes : List (List ℕ)
  pub ribbon : List ℕ
  pub saved : ℕ

abbrev hand : List (List ℕ) → List ℕ → ℕ → ByHand
hand c r s = record { codes = c; ribbon = r; saved = s }

abbrev pub starred : List ByHand
starred =
    hand (text "AB" ∷ []) (text "AB") 0
    ∷ hand (text "A" ∷ text "A" ∷ []) (text "A") 0
    ∷ hand (text "AB" ∷ text "BA" ∷ []) (text "AB") 0
    ∷ hand (text "ABC" ∷ text "B" ∷ []) (text "ABC") 0
    ∷ hand (text "AB" ∷ text "CD" ∷ []) (text "ABCD") 0
    ∷ hand (text "AB" ∷ text "BC" ∷ []) (text "ABC") 1
    ∷ hand (text "AB" ∷ text "CA" ∷ []) (text "CAB") 1
    ∷ hand (text "ABA" ∷ text "ACA" ∷ []) (text "ABACA") 1
    ∷ hand (text "ABB" ∷ text "BBB" ∷ text "BBC" ∷ []) (text "ABBBC") 4
    ∷ hand (text "ABB" ∷ text "BBC" ∷ text "BBB" ∷ []) (text "BBBABBC") 2
    ∷ hand (text "AABB" ∷ text "AAAC" ∷ text "ABBB" ∷ []) (text "CAAABBB") 5
    ∷ []

abbrev pub Starred : Type 0
Starred = Each (λ h. Lays Chosen turned h.codes h.ribbon h.saved) starred
