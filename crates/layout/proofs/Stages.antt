-- The stages put together: the ribbon of an order is given or refused by its length, and the outcome of the whole is that
-- of the kept codes in the order that joining gives.
use mathlib.Core.Path.{◌≡◌, refl, sym, ap, ◌∙◌}
use mathlib.Core.Bool.{Bool, true, false, not}
use Rattle.std.proofs.Common.{Result, Ok}
use mathlib.Core.List.{List, [], ◌∷◌}
use Prim.Native.Nat.{ℕ, zero, suc, ◌*◌, ◌≤◌, ◌<◌}
use native.Mathlib.Omega.{arith}
use lib.Dec.{ltb}
use lib.ListN.{length, take, drop, get_or}
use lib.Seq.{take-append_seam}
use borrow.Author.Tests.{lt-ltb, le-ltb}
use Rattle.words.specs.Lists.{Each}
use Rattle.words.specs.Turn.{turned}
use Rattle.lists.specs.Runs.{codes_in, over}
use Rattle.lists.specs.Refusals.{whole, false_list_number, short_buffer_number}
use Rattle.lists.specs.Fit.{list_ok_lem}
use Rattle.lists.specs.Outcome.{outcome}
use Rattle.joins.specs.Rows.{Wrote}
use Rattle.joins.proofs.Order.{order_within}
use Rattle.greedy.specs.Dropping.{kept}
use Rattle.greedy.specs.Reading.{shared, read_piece}
use Rattle.greedy.specs.Layout.{ribbon_for, order_for}
use Rattle.parts.specs.Parts.{Short}
use Rattle.spelling.specs.Ribbons.{InOrder, Measures}
use Rattle.greedy.specs.Answers.{lay_outcome}
use Rattle.layout.specs.Calls.{Gives, answer_of, order_outcome, kept_outcome}
use Rattle.greedy.specs.Answers as a
use Rattle.greedy.proofs.Answers.{by_tests}
use Rattle.layout.specs.Laid.{Laid}
use Rattle.lists.specs.declared.numbers.Refusal.{Refusal}

-- the ribbon of an order: too long for the buffer, or written
module _ {ks : List (List ℕ)} {p : List ℕ} {bands saved : ℕ} (m : Measures ks p bands saved) (buffer : List ℕ) where
  room : (t : Bool) → ltb (length buffer) bands ≡ t → ltb (length buffer) (length (read_piece turned ks p)) ≡ t
  room t e = ap (ltb (length buffer)) (sym m.long) ∙ e

  pub gives_short : {r : Result Laid Refusal} → length buffer < bands → answer_of r ≡ a.refused (whole short_buffer_number)
      → Gives (order_outcome ks p buffer) buffer r
  unfolding order_outcome
  gives_short l e =
      let t = room true (lt-ltb (length buffer) bands l) in
      record { answer = rw (t, order_outcome) e; left = rw (t, order_outcome) }

  pub gives_ribbon : {after : List ℕ} → bands ≤ length buffer → after ≡ over (read_piece turned ks p) buffer
      → Gives (order_outcome ks p buffer) after (Ok (record { bands = bands; saved = saved }))
  unfolding order_outcome
  gives_ribbon l e =
      let t = room false (le-ltb (length buffer) bands l) in
      record { answer = rw (t, order_outcome) (cc (m.long, m.saves)); left = rw (t, order_outcome) e }

-- the kept codes, laid out in the order that joining gives
module _ (ks : List (List ℕ)) {before after : List ℕ} {r : ℕ} (o : Wrote (order_for turned ks) before after r) where
  taken : take r after ≡ order_for turned ks
  taken = cc (o.count, o.written, take-append_seam (order_for turned ks) (drop (length (order_for turned ks)) before))

  pub in_order : r ≤ 256 → Short ks → InOrder ks (take r after)
  in_order few short =
      rw taken
      (record {
        few = omega (arith, o.count);
        short = short;
        faces = λ k l. each_at (order_for turned ks) (order_within (length ks) (shared turned ks)) k l;
      })
    where
      each_at : (p : List ℕ) → Each (λ (f : ℕ). f < 2 * length ks) p → (k : ℕ) → k < length p → get_or p k 0 < 2 * length ks
      each_at [] t k l = absurd (omega arith)
      each_at (f ∷ p) t zero l = t.0
      each_at (f ∷ p) t (suc k) l = each_at p t.1 k (omega arith)

  pub gives_ordered : (buffer : List ℕ) {left : List ℕ} {x : Result Laid Refusal}
      → Gives (order_outcome ks (take r after) buffer) left x → Gives (kept_outcome ks buffer) left x
  gives_ordered buffer g = rw taken at g

-- the whole: a false list is refused before anything, and else the outcome is that of the kept codes
module _ (run ls buffer : List ℕ) where
  abbrev cs : List (List ℕ)
  cs = codes_in run ls

  abbrev short : Bool
  short = ltb (length buffer) (length (ribbon_for turned cs))

  outcome_false : list_ok_lem run ls ≡ false → lay_outcome run ls buffer ≡ outcome (a.refused (whole false_list_number)) buffer
  outcome_false e = ap (λ (t : Bool). by_tests run ls buffer (not t) short) e

  -- the kept codes' outcome by its test
  kept_by : (t : Bool) → short ≡ t → kept_outcome (kept turned cs) buffer ≡ by_tests run ls buffer false t
  unfolding order_outcome
  kept_by true e = rw (e, order_outcome)
  kept_by false e = rw (e, order_outcome)

  outcome_kept : list_ok_lem run ls ≡ true → lay_outcome run ls buffer ≡ kept_outcome (kept turned cs) buffer
  outcome_kept e = ap (λ (t : Bool). by_tests run ls buffer (not t) short) e ∙ sym (kept_by short refl)

  pub gives_false : {r : Result Laid Refusal} → list_ok_lem run ls ≡ false → answer_of r ≡ a.refused (whole false_list_number)
      → Gives (lay_outcome run ls buffer) buffer r
  gives_false e f = rw (outcome_false e) (record { answer = f; left = refl })

  pub gives_kept : {after : List ℕ} {r : Result Laid Refusal} → list_ok_lem run ls ≡ true
      → Gives (kept_outcome (kept turned cs) buffer) after r → Gives (lay_outcome run ls buffer) after r
  gives_kept e g = rw (outcome_kept e) g
