-- How much room suffices: a computed ribbon has at most 8,192 bands, so a list that no clause of 12 refuses is laid out into
-- every buffer of that length.
use mathlib.Core.Path.{◌≡◌}
use mathlib.Core.Bool.{Bool, true, false}
use mathlib.Core.List.{List, [], ◌∷◌, map}
use Prim.Native.Nat.{ℕ, zero, suc, ◌*◌, ◌≤◌}
use native.Mathlib.Omega.{arith}
use lib.ListN.{length}
use borrow.Author.Tests.{le-ltb}
use Rattle.words.specs.Lists.{Each}
use Rattle.words.specs.Turn.{turned}
use Rattle.words.proofs.Lists.{each_at, each_map}
use Rattle.words.proofs.Turning.{turning}
use Rattle.lists.specs.Runs.{codes_in, total, lengths}
use Rattle.lists.specs.Rules.{CodeRule}
use Rattle.lists.specs.Fit.{list_ok_lem}
use Rattle.lists.proofs.Runs.{codes_count}
use Rattle.lists.proofs.Rules.{is_fit_list}
use Rattle.words.proofs.Deciding.{holds}
use Rattle.greedy.specs.Dropping.{code_at, without, is_dropped_lem}
use Rattle.greedy.specs.Layout.{ribbon_for, saved_by}
use Rattle.greedy.specs.Answers.{laid, lay_outcome}
use Rattle.words.specs.Stand.{some_way}
use Rattle.greedy.proofs.Claims.{each_laid}

code_short : (cs : List (List ℕ)) → Each CodeRule cs → (i : ℕ) → length (code_at cs i) ≤ 64
code_short cs h i =
    let short = each_map CodeRule (λ c. length c ≤ 64) (λ c r. r.1) cs h in
    each_at (λ c. length c ≤ 64) cs [] (omega arith) short i

total_short : (cs : List (List ℕ)) → Each CodeRule cs → (is : List ℕ)
    → total (lengths (map (code_at cs) is)) ≤ 64 * length is
total_short cs h [] = omega arith
total_short cs h (i ∷ is) = omega (arith, code_short cs h i, total_short cs h is)

some_of : (p : ℕ → Bool) (i n : ℕ) → length (without p i n) ≤ n
some_of p i zero = omega arith
some_of p i (suc n) = by (p i) (some_of p (suc i) n)
  where
    by : (t : Bool) → length (without p (suc i) n) ≤ n
        → length {A = ℕ} (elim t [ true ↦ without p (suc i) n | false ↦ i ∷ without p (suc i) n ]) ≤ suc n
    by true l = omega arith
    by false l = omega arith

pub ribbon_at_most : (run ls : List ℕ) → list_ok_lem run ls ≡ true → length (ribbon_for turned (codes_in run ls)) ≤ 8192
ribbon_at_most run ls ok =
    let cs = codes_in run ls in
    let F = holds (is_fit_list run ls) ok in
    let numbers = without (is_dropped_lem (some_way turned) cs) 0 (length cs) in
    omega (
      arith,
      (each_laid turned turning cs).adds_up,
      total_short cs F.coded numbers,
      some_of (is_dropped_lem (some_way turned) cs) 0 (length cs),
      codes_count run ls,
      F.at_most,
    )

-- Every fit list is accepted, into a buffer that is long enough.
pub accepts : (run ls buffer : List ℕ) → list_ok_lem run ls ≡ true → length (ribbon_for turned (codes_in run ls)) ≤ length buffer
    → (lay_outcome run ls buffer).answer ≡ laid (length (ribbon_for turned (codes_in run ls))) (saved_by turned (codes_in run ls))
accepts run ls buffer ok room =
    rw (lay_outcome, ok, le-ltb (length buffer) (length (ribbon_for turned (codes_in run ls))) room)
