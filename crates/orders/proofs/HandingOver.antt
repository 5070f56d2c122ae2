-- A file that is refused gives the outcome of its refusal.
use mathlib.Core.Path.{◌≡◌, sym, ap}
use mathlib.Core.List.{List}
use Prim.Native.Nat.{ℕ, zero, suc, ◌≤◌, ◌<◌}
use native.Mathlib.Omega.{arith}
use lib.Dec.{eqb-suc-zero}
use borrow.Author.Tests.{lt-ltb, le-ltb, eq-eqb}
use lib.ListN.{length}
use Rattle.lists.specs.Refusals.{refusal}
use Rattle.lists.specs.Outcome.{outcome}
use Rattle.grammar.specs.Files.{bad}
use Rattle.grammar.specs.Orders.{read_orders_lem}
use Rattle.grammar.specs.Answers.{Lent, refused, outcome_for, read_outcome}
use Rattle.orders.specs.Calls.{Gives}
use Rattle.std.specs.Prelude.{Err}
use Rattle.lists.specs.Answers.{number_of}
use Rattle.lists.specs.declared.numbers.Refusal.{Refusal}
use Rattle.lists.specs.declared.numbers.Fault.TheVariants as fault
use Rattle.lists.proofs.Table.{some_number}

-- Whatever it is refused for: too many bytes, or none, or a row.
refused_as : (b : Lent) (n l : ℕ) → 0 < n → outcome_for (bad n l) b ≡ outcome (refused (refusal n l)) b
refused_as b zero l h = absurd (omega arith)
refused_as b (suc n) l h = cc (eqb-suc-zero n)

module _ (s : List ℕ) (b : Lent) where
  pub gives_bad : {r : Refusal} → read_orders_lem s ≡ bad (number_of r.fault) r.row → Gives (read_outcome s b) b (Err r)
  gives_bad {r} e =
      let o = refused_as b (number_of r.fault) r.row (some_number r.fault) in
      rw e (record { answer = sym (ap (λ o. o.answer) o); after = sym (ap (λ o. o.after) o) })

  pub gives_long : 16384 < length s → Gives (read_outcome s b) b (Err (record { fault = fault.LongFile; row = 0 }))
  gives_long h = gives_bad (cc (lt-ltb 16384 (length s) h))

  pub gives_empty : length s ≤ 16384 → length s ≡ 0
      → Gives (read_outcome s b) b (Err (record { fault = fault.WrongHeading; row = 0 }))
  gives_empty h z = gives_bad (cc (le-ltb 16384 (length s) h, eq-eqb (length s) 0 z))
