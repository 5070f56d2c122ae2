-- What reading an order list into lent buffers answers and leaves there, refused input too: the claim on any call, and
-- ours.
use Rattle.std.specs.Prelude.{◌⊎◌, Bool, true, false, ◌||◌, List, ℕ, ◌<◌, eqb, ltb, length}
use Rattle.lists.specs.Refusals.{Refusal, refusal, whole, short_buffer_number, when, first_of}
use Rattle.lists.specs.Outcome.{Outcome, outcome}
use Rattle.lists.specs.Runs.{flat, lengths, over}
use Rattle.grammar.specs.Files.{Orders, orders, bad}
use Rattle.grammar.specs.Grammar.{Reads}
use Rattle.grammar.specs.Orders.{read_orders_lem}

-- The four lent buffers: for the codes their run and a length each, for the names their run and a length each.
pub record Lent : Type 0 where
  pub code_run : List ℕ
  pub code_lengths : List ℕ
  pub name_run : List ℕ
  pub name_lengths : List ℕ

abbrev pub lent : List ℕ → List ℕ → List ℕ → List ℕ → Lent
lent a b c d = record { code_run = a; code_lengths = b; name_run = c; name_lengths = d }

-- the result that these names and codes are
abbrev pub result_of : List (List ℕ) → List (List ℕ) → Lent
result_of ns cs = lent (flat cs) (lengths cs) (flat ns) (lengths ns)

-- the buffers with the result written at their beginnings
abbrev pub put_into : Lent → Lent → Lent
put_into r b =
    lent
    (over r.code_run b.code_run)
    (over r.code_lengths b.code_lengths)
    (over r.name_run b.name_run)
    (over r.name_lengths b.name_lengths)

-- refused; or read, with how many codes there are, how many bands in them, and how many bytes of names
pub data ReadAnswer : Type 0 where
  refused : Refusal → ReadAnswer
  read : (codes bands names : ℕ) → ReadAnswer

abbrev pub ReadOutcome : Type 0
ReadOutcome = Outcome ReadAnswer Lent

abbrev pub counts : Lent → ReadAnswer
counts r = read (length r.code_lengths) (length r.code_run) (length r.name_run)

-- 13's condition: a lent result buffer is shorter than the result
abbrev pub Short : Lent → Lent → Type 0
Short b r =
    (length b.code_run < length r.code_run)
    ⊎ ((length b.code_lengths < length r.code_lengths)
    ⊎ ((length b.name_run < length r.name_run) ⊎ (length b.name_lengths < length r.name_lengths)))

-- The claim on a call that reads: the file's refusals come first, then 13 with row 0; a refused call changes no lent
-- byte, and on success buffers past the result keep what they had.
pub data ReadsInto (s : List ℕ) (b : Lent) : ReadOutcome → Type 0 where
  file_refused : {n l : ℕ} → Reads s (bad n l) → 0 < n → ReadsInto s b (outcome (refused (refusal n l)) b)
  short_buffer : {ns cs : List (List ℕ)} → Reads s (orders 0 0 ns cs) → Short b (result_of ns cs)
      → ReadsInto s b (outcome (refused (whole short_buffer_number)) b)
  filled : {ns cs : List (List ℕ)} → Reads s (orders 0 0 ns cs) → (Short b (result_of ns cs) → ⊥)
      → ReadsInto s b (outcome (counts (result_of ns cs)) (put_into (result_of ns cs) b))

abbrev pub Serves : (List ℕ → Lent → ReadOutcome) → Type 0
Serves call = (s : List ℕ) (b : Lent) → ReadsInto s b (call s b)

-- Ours. 13 has row 0, as every accepted file has.
abbrev pub too_short : Lent → Lent → Bool
too_short b r =
    ltb (length b.code_run) (length r.code_run)
    || (ltb (length b.code_lengths) (length r.code_lengths)
    || (ltb (length b.name_run) (length r.name_run) || ltb (length b.name_lengths) (length r.name_lengths)))

abbrev pub read_fault : Orders → Lent → ℕ
read_fault x b = first_of x.number (when (too_short b (result_of x.names x.codes)) short_buffer_number)

abbrev pub outcome_for : Orders → Lent → ReadOutcome
outcome_for x b =
    let r = result_of x.names x.codes in
    let f = read_fault x b in
    elim (eqb f 0) [ true ↦ outcome (counts r) (put_into r b) | false ↦ outcome (refused (refusal f x.line)) b ]

abbrev pub read_outcome : List ℕ → Lent → ReadOutcome
read_outcome s b = outcome_for (read_orders_lem s) b
