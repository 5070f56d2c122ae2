-- What the call that reads means in document 01's words, whatever meets its contract: the defined outcome meets the claim
-- on such calls, whose cases are the answers.
use mathlib.Core.Path.{◌≡◌, ap, subst}
use mathlib.Core.List.{List}
use Prim.Native.Nat.{ℕ}
use native.Mathlib.Omega.{arith}
use Rattle.lists.specs.Refusals.{refusal, whole, short_buffer_number}
use Rattle.lists.specs.Answers.{refusal_of}
use Rattle.grammar.specs.Files as files
use Rattle.grammar.specs.Grammar.{Reads}
use Rattle.grammar.specs.HandsOn.{HandedOn}
use Rattle.grammar.specs.Answers.{Lent, ReadOutcome, ReadsInto, file_refused, short_buffer, filled}
use Rattle.orders.specs.Calls.{Answer, answer_of, ReadsAs, in_file, in_buffers, Means, ReadsOrders}
use Rattle.std.specs.Prelude.{Ok, Err}
use Rattle.grammar.proofs.Only.{reads_only}
use Rattle.grammar.proofs.Answers.{serves_ours}
use Rattle.grammar.proofs.HandsOn.{hands_on}

pub handed : {s : List ℕ} {ns cs : List (List ℕ)} → Reads s (files.orders 0 0 ns cs) → HandedOn ns cs
handed {s} x =
    let e = reads_only x in
    subst (λ (o : files.Orders). HandedOn o.names o.codes) e (hands_on s (ap (λ o. o.number) e))

module _ {s : List ℕ} {b left : Lent} where
  by_case : (r : Answer) {out : ReadOutcome} → ReadsInto s b out → answer_of r ≡ out.answer → left ≡ out.after → Means s b left r
  by_case (Err q) (file_refused {n} {l} x h) e f =
      let same : refusal_of q ≡ refusal n l = cc in
      (rw (ap (λ y. y.number) same, ap (λ y. y.row) same) (in_file x h), f)
  by_case (Err q) (short_buffer x h) e f =
      let same : refusal_of q ≡ whole short_buffer_number = cc in
      (rw (ap (λ y. y.number) same, ap (λ y. y.row) same) (in_buffers x h), f)
  by_case (Err q) (filled x h) e f = let z : ◌≡◌ {A = ℕ} 0 1 = cc in absurd (omega arith)
  by_case (Ok o) (file_refused x h) e f = let z : ◌≡◌ {A = ℕ} 0 1 = cc in absurd (omega arith)
  by_case (Ok o) (short_buffer x h) e f = let z : ◌≡◌ {A = ℕ} 0 1 = cc in absurd (omega arith)
  by_case (Ok o) (filled {ns} {cs} x h) e f = record {
    ns = ns;
    cs = cs;
    due = x;
    long_enough = h;
    written = f;
    counted = e;
    handed_on = handed x;
  }

pub call_means : (s : List ℕ) (b left : Lent) (r : Answer) → ReadsAs s b left r → Means s b left r
call_means s b left r a = by_case r (serves_ours s b) a.answer a.after

pub reads_orders : (s : List ℕ) (b : Lent) {left : Lent} {r : Answer} → ReadsAs s b left r → ReadsOrders s b left r
reads_orders s b {left} {r} a = record { gives = a; means = call_means s b left r a }
