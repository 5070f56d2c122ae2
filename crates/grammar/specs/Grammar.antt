-- What document 01 asks of an order list, as relations: RFC 4180's grammar, the rules for entries, each number of the
-- table under its condition, and the one answer that is due. No reader is cited here.
use Rattle.std.specs.Prelude.{◌≡◌, ◌⊎◌, ◌≢◌, List, [], ◌∷◌, ◌++◌, map, ℕ, ◌+◌, ◌≤◌, ◌<◌, length}
use Rattle.words.specs.Lists.{In, Each, Once}
use Rattle.lists.specs.Refusals.{long_file_number, broken_row_number, wrong_width_number, wrong_heading_number, bad_name_number, no_bands_number, long_code_number}
use Rattle.lists.specs.Refusals.{unknown_colour_number, name_taken_number, list_full_number, empty_list_number}
use Rattle.lists.specs.Rules.{Band, CodeRule, Printed, NameRule}
use Rattle.grammar.specs.Files.{quote, comma, cr, lf, heading, Orders, orders, bad}

-- RFC 4180's grammar over hexadecimal 20 to 7E, CR and LF.

-- TEXTDATA: a byte of an unquoted field
abbrev pub Text : ℕ → Type 0
Text b = Printed b × (b ≢ quote) × (b ≢ comma)

-- a byte that stands for itself inside quotes: TEXTDATA, a comma, CR or LF
abbrev pub Quotable : ℕ → Type 0
Quotable b = (Printed b ⊎ ((b ≡ cr) ⊎ (b ≡ lf))) × (b ≢ quote)

-- what stands between two quotes (the inside of RFC 4180's escaped), and its content: each doubled quote is made one
pub data Inside : List ℕ → List ℕ → Type 0 where
  nothing : Inside [] []
  byte : {b : ℕ} {w c : List ℕ} → Quotable b → Inside w c → Inside (b ∷ w) (b ∷ c)
  doubled : {w c : List ℕ} → Inside w c → Inside (quote ∷ (quote ∷ w)) (quote ∷ c)

-- a field as written (non-escaped or escaped), and its content: the quotes are taken off
pub data Field : List ℕ → List ℕ → Type 0 where
  unquoted : {c : List ℕ} → Each Text c → Field c c
  quoted : {w c : List ℕ} → Inside w c → Field (quote ∷ (w ++ (quote ∷ []))) c

-- a row as written (a record), and the contents of its fields
pub data Fields : List ℕ → List (List ℕ) → Type 0 where
  one : {w c : List ℕ} → Field w c → Fields w (c ∷ [])
  more : {w v c : List ℕ} {cs : List (List ℕ)} → Field w c → Fields v cs → Fields (w ++ (comma ∷ v)) (c ∷ cs)

-- rows end in CR LF, the last may lack it; and this comes after the end
pub data Ends : List ℕ → List ℕ → Type 0 where
  line : {next : List ℕ} → Ends (cr ∷ (lf ∷ next)) next
  file : Ends [] []

-- a row with these fields begins here, and this comes after it
pub record RowAt (here : List ℕ) (fields : List (List ℕ)) (next : List ℕ) : Type 0 where
  pub written : List ℕ
  pub after : List ℕ
  pub parts : here ≡ written ++ after
  pub is_row : Fields written fields
  pub ends : Ends after next

-- the row that begins here breaks the grammar: nothing that begins here is a row with its end
abbrev pub Broken : List ℕ → Type 0
Broken here = (fields : List (List ℕ)) (next : List ℕ) → RowAt here fields next → ⊥

-- a file begins with these rows, and this comes after them; where no byte is left no row begins
pub data Rows : List ℕ → List (List (List ℕ)) → List ℕ → Type 0 where
  none : {here : List ℕ} → Rows here [] here
  next : {here after rest : List ℕ} {fields : List (List ℕ)} {rows : List (List (List ℕ))} → here ≢ []
      → RowAt here fields after → Rows after rows rest → Rows here (fields ∷ rows) rest

-- The entries of a list, a row for each code.
pub record Entry : Type 0 where
  pub name : List ℕ
  pub code : List ℕ

abbrev pub names : List Entry → List (List ℕ)
names es = map (λ e. e.name) es

abbrev pub codes : List Entry → List (List ℕ)
codes es = map (λ e. e.code) es

abbrev pub fields_of : List Entry → List (List (List ℕ))
fields_of es = map (λ e. e.name ∷ (e.code ∷ [])) es

-- each name keeps its rule and is used once, each code keeps its rule, and there are at most 128
pub record Rules (es : List Entry) : Type 0 where
  pub named : Each NameRule (names es)
  pub coded : Each CodeRule (codes es)
  pub once : Once (names es)
  pub count : length es ≤ 128

-- the heading, then these entries, which keep the rules; and this comes after them
pub record Passed (s : List ℕ) (es : List Entry) (rest : List ℕ) : Type 0 where
  pub begins : Rows s (heading ∷ fields_of es) rest
  pub keeps : Rules es

-- The table of refused orders, each number under its condition: 4 for row 1,
pub data HeadFault (fields : List (List ℕ)) : ℕ → Type 0 where
  wrong_heading : fields ≢ heading → HeadFault fields wrong_heading_number

-- 5 to 10 for a row after the heading, with the names of the entries before it,
pub data EntryFault (before : List (List ℕ)) : List (List ℕ) → ℕ → Type 0 where
  bad_name : {name code : List ℕ} → (NameRule name → ⊥) → EntryFault before (name ∷ (code ∷ [])) bad_name_number
  no_bands : {name code : List ℕ} → code ≡ [] → EntryFault before (name ∷ (code ∷ [])) no_bands_number
  long_code : {name code : List ℕ} → 64 < length code → EntryFault before (name ∷ (code ∷ [])) long_code_number
  unknown_colour : {name code : List ℕ} → (Each Band code → ⊥) → EntryFault before (name ∷ (code ∷ [])) unknown_colour_number
  name_taken : {name code : List ℕ} → In name before → EntryFault before (name ∷ (code ∷ [])) name_taken_number
  list_full : {name code : List ℕ} → 128 ≤ length before → EntryFault before (name ∷ (code ∷ [])) list_full_number

-- and 2 and 3 for either.
pub data RowFault (of_Fields : List (List ℕ) → ℕ → Type 0) (here : List ℕ) : ℕ → Type 0 where
  broken_row : Broken here → RowFault of_Fields here broken_row_number
  wrong_width : {fields : List (List ℕ)} {next : List ℕ} → RowAt here fields next → length fields ≢ 2
      → RowFault of_Fields here wrong_width_number
  in_fields : {fields : List (List ℕ)} {next : List ℕ} {k : ℕ} → RowAt here fields next → of_Fields fields k
      → RowFault of_Fields here k

-- in a row, the lowest number
pub record Lowest (fault : ℕ → Type 0) (k : ℕ) : Type 0 where
  pub given : fault k
  pub none_lower : (j : ℕ) → j < k → fault j → ⊥

-- The answer due for a file of at most 16,384 bytes: the earliest faulty row, then 11. The heading is row 1; the row is
-- 0 for a file of 0 bytes and for 11.
pub data Due (s : List ℕ) : Orders → Type 0 where
  no_bytes : s ≡ [] → Due s (bad wrong_heading_number 0)
  in_heading : {k : ℕ} → s ≢ [] → Lowest (RowFault HeadFault s) k → Due s (bad k 1)
  in_entry : {k : ℕ} {es : List Entry} {here : List ℕ} → Passed s es here → here ≢ []
      → Lowest (RowFault (EntryFault (names es)) here) k → Due s (bad k (2 + length es))
  empty_list : Passed s [] [] → Due s (bad empty_list_number 0)
  accepted : {es : List Entry} → Passed s es [] → es ≢ [] → Due s (orders 0 0 (names es) (codes es))

-- the answer due for a file: 1 comes first, with row 0
pub data Reads (s : List ℕ) : Orders → Type 0 where
  long_file : 16384 < length s → Reads s (bad long_file_number 0)
  short_file : {x : Orders} → length s ≤ 16384 → Due s x → Reads s x

-- The claim on a reader: it gives the answer due for every file.
abbrev pub Meets : (List ℕ → Orders) → Type 0
Meets read = (s : List ℕ) → Reads s (read s)
