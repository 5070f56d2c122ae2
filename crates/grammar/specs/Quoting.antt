-- A field as it is written: quoted only if it holds a comma or a quote, each quote inside doubled.
use Rattle.std.specs.Prelude.{◌⊎◌, Bool, false, ◌||◌, List, [], ◌∷◌, ◌++◌, ℕ, eqb}
use Rattle.words.specs.Tests.{pick}
use Rattle.words.specs.Lists.{In, Each}
use Rattle.lists.specs.Rules.{Printed}
use Rattle.grammar.specs.Files.{quote, comma}
use Rattle.grammar.specs.Grammar.{Inside}

-- it holds a comma or a quote
abbrev pub Marked : List ℕ → Type 0
Marked c = In comma c ⊎ In quote c

-- a content and its field as written
pub data Written (c : List ℕ) : List ℕ → Type 0 where
  as_it_is : (Marked c → ⊥) → Written c c
  in_quotes : {w : List ℕ} → Marked c → Inside w c → Written c (quote ∷ (w ++ (quote ∷ [])))

-- The claim on a writer of fields, for contents of bytes hexadecimal 20 to 7E, as names are.
abbrev pub Writes : (List ℕ → List ℕ) → Type 0
Writes write = (c : List ℕ) → Each Printed c → Written c (write c)

-- Ours: the test for it, each quote doubled, and the field.
abbrev pub needs_quotes_lem : List ℕ → Bool
needs_quotes_lem [] = false
needs_quotes_lem (b ∷ s) = eqb b comma || (eqb b quote || needs_quotes_lem s)

abbrev pub doubled_quotes : List ℕ → List ℕ
doubled_quotes [] = []
doubled_quotes (b ∷ s) = pick (eqb b quote) (quote ∷ (quote ∷ [])) (b ∷ []) ++ doubled_quotes s

abbrev pub field_text : List ℕ → List ℕ
field_text c = pick (needs_quotes_lem c) (quote ∷ (doubled_quotes c ++ (quote ∷ []))) c
