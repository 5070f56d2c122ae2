-- Wrong calls that lay out a list, each written out and caught by the claim on a named list and buffer.
use mathlib.Core.Path.{◌≡◌, ap}
use mathlib.Core.Logic.{◌≢◌}
use mathlib.Core.Bool.{◌&&◌}
use mathlib.Core.List.{List, [], ◌∷◌, map}
use Prim.Native.Nat.{ℕ}
use native.Mathlib.Omega.{arith}
use lib.Dec.{eqb, ltb}
use lib.ListN.{length, get_or}
use Rattle.words.specs.Tests.{pick}
use Rattle.words.specs.Turn.{turned}
use Rattle.words.specs.Texts.{text}
use Rattle.lists.specs.Refusals.{whole, false_list_number, short_buffer_number}
use Rattle.lists.specs.Outcome.{outcome}
use Rattle.lists.specs.Runs.{codes_in, over}
use Rattle.greedy.specs.Layout.{ribbon_for, saved_by}
use Rattle.greedy.specs.Answers.{LayOutcome, refused, laid, LaysOut, lay_outcome}
use Rattle.greedy.proofs.Answers.{lays_out_only}

abbrev Call : Type 0
Call = List ℕ → List ℕ → List ℕ → LayOutcome

-- the list AB, cut by some lengths, into a given buffer
caught_by : (ls : List ℕ) (call : Call) (buffer : List ℕ) (look : LayOutcome → ℕ)
    → look (call (text "AB") ls buffer) ≢ look (lay_outcome (text "AB") ls buffer) → LaysOut call → ⊥
caught_by ls call buffer look d h = d (ap look (lays_out_only call h (text "AB") ls buffer))

caught : (call : Call) (buffer : List ℕ) (look : LayOutcome → ℕ)
    → look (call (text "AB") (2 ∷ []) buffer) ≢ look (lay_outcome (text "AB") (2 ∷ []) buffer) → LaysOut call → ⊥
caught = caught_by (2 ∷ [])

abbrev number : LayOutcome → ℕ
number o = elim o.answer [ refused r ↦ r.number | laid b s ↦ 0 ]

abbrev byte : ℕ → LayOutcome → ℕ
byte i o = get_or o.after i 0

-- every list turned away; 13 for every buffer under 8,192 bytes
abbrev all_turned_away : Call
all_turned_away run ls buffer = outcome (refused (whole false_list_number)) buffer

pub not_all_turned_away : LaysOut all_turned_away → ⊥
unfolding turned
not_all_turned_away = caught all_turned_away (7 ∷ 7 ∷ []) number (λ e. omega arith)

abbrev short_at_once : Call
short_at_once run ls buffer =
    pick (ltb (length buffer) 8192) (outcome (refused (whole short_buffer_number)) buffer) (lay_outcome run ls buffer)

pub not_short_at_once : LaysOut short_at_once → ⊥
unfolding turned
not_short_at_once = caught short_at_once (7 ∷ 7 ∷ []) number (λ e. omega arith)

-- the retired number, 14, where several codes share nothing, as if no join of overlap 0 were allowed; on A and B
abbrev retired_number : Call
retired_number run ls buffer =
    pick
    (ltb 1 (length ls) && eqb (saved_by turned (codes_in run ls)) 0)
    (outcome (refused (whole 14)) buffer)
    (lay_outcome run ls buffer)

pub not_retired_number : LaysOut retired_number → ⊥
unfolding turned
not_retired_number = caught_by (1 ∷ 1 ∷ []) retired_number (7 ∷ 7 ∷ []) number (λ e. omega arith)

-- an untouched buffer; a byte written before a refusal; the buffer past the ribbon cleared
abbrev untouched : Call
untouched run ls buffer = outcome (lay_outcome run ls buffer).answer buffer

pub not_untouched : LaysOut untouched → ⊥
unfolding turned
not_untouched = caught untouched (7 ∷ 7 ∷ []) (byte 0) (λ e. omega arith)

abbrev writes_refused : Call
writes_refused run ls buffer = outcome (lay_outcome run ls buffer).answer (over (ribbon_for turned (codes_in run ls)) buffer)

pub not_writes_refused : LaysOut writes_refused → ⊥
unfolding turned
not_writes_refused = caught writes_refused (7 ∷ []) (byte 0) (λ e. omega arith)

abbrev cleared : Call
cleared run ls buffer = lay_outcome run ls (map (λ (b : ℕ). 0) buffer)

pub not_cleared : LaysOut cleared → ⊥
unfolding turned
not_cleared = caught cleared (7 ∷ 7 ∷ 7 ∷ []) (byte 2) (λ e. omega arith)

-- 13 before 12: on A1, which is no code, into no buffer; length and saved exchanged: on AB
abbrev short_first : Call
short_first run ls buffer =
    pick
    (ltb (length buffer) (length (ribbon_for turned (codes_in run ls))))
    (outcome (refused (whole short_buffer_number)) buffer)
    (lay_outcome run ls buffer)

pub not_short_first : LaysOut short_first → ⊥
unfolding turned
not_short_first h =
    let e : short_buffer_number ≡ false_list_number = ap number (lays_out_only short_first h (text "A1") (2 ∷ []) []) in
    omega arith

abbrev exchanged : Call
exchanged run ls buffer =
    let o = lay_outcome run ls buffer in
    elim o.answer [ refused r ↦ o | laid b s ↦ outcome (laid s b) o.after ]

abbrev bands : LayOutcome → ℕ
bands o = elim o.answer [ refused r ↦ 0 | laid b s ↦ b ]

pub not_exchanged : LaysOut exchanged → ⊥
unfolding turned
not_exchanged = caught exchanged (7 ∷ 7 ∷ []) bands (λ e. omega arith)
