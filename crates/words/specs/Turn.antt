-- Turned forms (reversals of strings).
use Rattle.std.specs.Prelude.{◌≡◌, List, [], ◌∷◌, ◌++◌, ℕ, suc, ◌+◌, length, get_or}

-- in reverse order, each replaced by m of it
abbrev pub turned_by : {A : Type 0} → (A → A) → List A → List A
turned_by m [] = []
turned_by m (b ∷ c) = turned_by m c ++ (m b ∷ [])

-- turned: the bands read from the last to the first (the reversal of a string); no band is replaced
unfoldable pub turned : List ℕ → List ℕ
turned c = turned_by (λ b. b) c

-- What the rest of the work asks of a way to turn words, and all that it may use of it: the length stays, a word turned
-- twice is as before, and the parts of a word come in the other order.
pub record Turning (turn : List ℕ → List ℕ) : Type 0 where
  pub as_long : (c : List ℕ) → length (turn c) ≡ length c
  pub back : (c : List ℕ) → turn (turn c) ≡ c
  pub parts : (a b : List ℕ) → turn (a ++ b) ≡ turn b ++ turn a

-- The claim that pins `turned`, band by band: i bands from the front it has what c has i bands from the back.
pub record TurnedForm (c d : List ℕ) : Type 0 where
  pub as_long : length d ≡ length c
  pub from_back : (i j : ℕ) → suc (i + j) ≡ length c → get_or d i 0 ≡ get_or c j 0

abbrev pub Turns : (List ℕ → List ℕ) → Type 0
Turns turn = (c : List ℕ) → TurnedForm c (turn c)
