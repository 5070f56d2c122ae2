-- What files are made of, and what reading one answers.
use Rattle.std.specs.Prelude.{List, [], ◌∷◌, ◌++◌, ℕ}
use Rattle.words.specs.Texts.{text}

-- the bytes that RFC 4180 names
abbrev pub quote : ℕ
quote = 34

abbrev pub comma : ℕ
comma = 44

abbrev pub cr : ℕ
cr = 13

abbrev pub lf : ℕ
lf = 10

-- rows end in CR LF
abbrev pub line_break : List ℕ
line_break = cr ∷ (lf ∷ [])

-- the fields of the heading row `name,code`
abbrev pub word_name : List ℕ
word_name = text "name"

abbrev pub word_code : List ℕ
word_code = text "code"

abbrev pub heading : List (List ℕ)
heading = word_name ∷ (word_code ∷ [])

-- the answer for a file: a refusal's number and row, or 0 and 0 with the names and the codes in list order
pub record Orders : Type 0 where
  pub number : ℕ
  pub line : ℕ
  pub names : List (List ℕ)
  pub codes : List (List ℕ)

abbrev pub orders : ℕ → ℕ → List (List ℕ) → List (List ℕ) → Orders
orders n l a c = record { number = n; line = l; names = a; codes = c }

-- refused
abbrev pub bad : ℕ → ℕ → Orders
bad n l = orders n l [] []

-- one more at the end
abbrev pub add : {A : Type 0} → List A → A → List A
add s x = s ++ (x ∷ [])
