-- The claim on what a call that reads answers and leaves in lent memory: ours meets it, it leaves no freedom, and
-- impostors fail it.
use mathlib.Core.Path.{◌≡◌, sym, ap, ◌∙◌}
use mathlib.Core.Logic.{◌≢◌}
use mathlib.Core.Bool.{Bool, true, false}
use mathlib.Core.List.{List, map}
use Prim.Native.Nat.{ℕ, zero, suc, ◌<◌}
use native.Mathlib.Omega.{arith}
use lib.Dec.{eqb, ltb, eqb-suc-zero}
use lib.ListN.{length, get_or, replicate}
use Rattle.words.specs.Texts.{text}
use Rattle.words.specs.Tests.{pick}
use Rattle.words.specs.Decides.{Decides, yes, no}
use Rattle.words.proofs.Deciding.{decides_or, passes, refuses, is_lt}
use Rattle.lists.specs.Refusals.{refusal, whole, short_buffer_number, when}
use Rattle.grammar.specs.Files.{Orders, orders, bad}
use Rattle.grammar.specs.Grammar.{names, codes, Reads}
use Rattle.grammar.specs.Orders.{read_orders_lem}
use Rattle.grammar.specs.Answers.{Lent, lent, result_of, put_into, ReadAnswer, ReadOutcome}
use Rattle.lists.specs.Outcome.{outcome}
use Rattle.grammar.specs.Answers.{refused, read, counts, Short}
use Rattle.grammar.specs.Answers.{ReadsInto, file_refused, short_buffer, filled, Serves, too_short, outcome_for}
use Rattle.grammar.specs.Answers.{read_outcome}
use Rattle.grammar.proofs.Reading.{reads_ours}
use Rattle.grammar.proofs.Only.{reads_only}
use Rattle.grammar.proofs.Exactly.{Kind, unfit, tells, kind}
use Rattle.grammar.proofs.Impostors.{headed}

is_short : (b r : Lent) → Decides (Short b r) (too_short b r)
is_short b r = decides_or (is_lt _ _) (decides_or (is_lt _ _) (decides_or (is_lt _ _) (is_lt _ _)))

-- what ours gives in each case
module _ (b : Lent) where
  if_refused : (n l : ℕ) → 0 < n → outcome_for (bad n l) b ≡ outcome (refused (refusal n l)) b
  if_refused zero l h = absurd (omega arith)
  if_refused (suc n) l h = cc (eqb-suc-zero n)

  module _ (ns cs : List (List ℕ)) where
    abbrev r : Lent
    r = result_of ns cs

    -- by the test for 13
    by_test : Bool → ReadOutcome
    by_test t =
        let f = when t short_buffer_number in
        elim (eqb f 0) [ true ↦ outcome (counts r) (put_into r b) | false ↦ outcome (refused (whole f)) b ]

    pub if_short : Short b r → outcome_for (orders 0 0 ns cs) b ≡ outcome (refused (whole short_buffer_number)) b
    unfolding by_test
    if_short h = ap by_test (passes (is_short b r) h)

    pub if_filled : (Short b r → ⊥) → outcome_for (orders 0 0 ns cs) b ≡ outcome (counts r) (put_into r b)
    unfolding by_test
    if_filled h = ap by_test (refuses (is_short b r) h)

-- Ours meets it.
answered : (s : List ℕ) (b : Lent) {x : Orders} → Kind s x → Reads s x → ReadsInto s b (outcome_for x b)
answered s b (unfit {n} {l} h) x = rw (if_refused b n l h) (file_refused x h)
answered s b (tells {es} a) x = by (is_short b (result_of ns cs))
  where
    ns : List (List ℕ)
    ns = names es

    cs : List (List ℕ)
    cs = codes es

    by : {t : Bool} → Decides (Short b (result_of ns cs)) t → ReadsInto s b (outcome_for (orders 0 0 ns cs) b)
    by (yes h) = rw (if_short b ns cs h) (short_buffer x h)
    by (no h) = rw (if_filled b ns cs h) (filled x h)

pub serves_ours : Serves read_outcome
serves_ours s b = answered s b (kind (reads_ours s)) (reads_ours s)

-- Nothing else does.
into_only : {s : List ℕ} {b : Lent} {o : ReadOutcome} → ReadsInto s b o → read_outcome s b ≡ o
into_only {b} (file_refused {n} {l} x h) = ap (λ y. outcome_for y b) (reads_only x) ∙ if_refused b n l h
into_only {b} (short_buffer {ns} {cs} x h) = ap (λ y. outcome_for y b) (reads_only x) ∙ if_short b ns cs h
into_only {b} (filled {ns} {cs} x h) = ap (λ y. outcome_for y b) (reads_only x) ∙ if_filled b ns cs h

pub serves_only : (call : List ℕ → Lent → ReadOutcome) → Serves call → (s : List ℕ) (b : Lent)
    → call s b ≡ read_outcome s b
serves_only call h s b = sym (into_only (h s b))

-- Impostors, each caught on the heading and P,A, with buffers of these sizes that hold 7s. (13 goes with no fault of
-- the file: a refused file has no result.)
abbrev file : List ℕ
file = headed (text "P,A")

abbrev sevens : ℕ → ℕ → Lent
sevens n m = lent (replicate n 7) (replicate m 7) (replicate n 7) (replicate m 7)

caught : (call : List ℕ → Lent → ReadOutcome) (b : Lent) (look : ReadOutcome → ℕ)
    → look (read_outcome file b) ≢ look (call file b) → Serves call → ⊥
caught call b look d h = d (ap look (into_only (h file b)))

abbrev number : ReadOutcome → ℕ
number o = elim o.answer [ refused r ↦ r.number | read c b n ↦ 0 ]

abbrev answer : List ℕ → Lent → ReadAnswer
answer s b = (read_outcome s b).answer

abbrev result : List ℕ → Lent
result s = let x = read_orders_lem s in result_of x.names x.codes

-- 13 before any search, where the bands of some list would not fit
abbrev short_unread : List ℕ → Lent → ReadOutcome
short_unread s b = pick (ltb (length b.code_run) 8192) (outcome (refused (whole short_buffer_number)) b) (read_outcome s b)

pub not_short_unread : Serves short_unread → ⊥
not_short_unread = caught short_unread (sevens 1 1) number (λ e. omega arith)

-- a refused call that writes; no room for lengths
abbrev writes_refused_lem : List ℕ → Lent → ReadOutcome
writes_refused_lem s b = outcome (answer s b) (put_into (result s) b)

pub not_writes_refused : Serves writes_refused_lem → ⊥
not_writes_refused = caught writes_refused_lem (sevens 1 0) (λ o. get_or o.after.code_run 0 0) (λ e. omega arith)

-- an untouched buffer
abbrev untouched : List ℕ → Lent → ReadOutcome
untouched s b = outcome (answer s b) b

pub not_untouched : Serves untouched → ⊥
not_untouched = caught untouched (sevens 1 1) (λ o. get_or o.after.code_run 0 0) (λ e. omega arith)

-- a run of bands cleared past the result; room for two bands
abbrev cleared : List ℕ → Lent → ReadOutcome
cleared s b =
    let zeros = lent (map (λ x. 0) b.code_run) b.code_lengths b.name_run b.name_lengths in
    outcome (answer s b) (put_into (result s) zeros)

pub not_cleared : Serves cleared → ⊥
not_cleared = caught cleared (sevens 2 1) (λ o. get_or o.after.code_run 1 0) (λ e. omega arith)
