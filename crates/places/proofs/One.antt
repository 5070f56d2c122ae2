-- One place: code i of a fit list is item i of its run; its place starts within the ribbon, so a record holds it; and a record
-- that tells the place is the code's.
use mathlib.Core.Path.{◌≡◌, refl, sym, ap, subst, ◌∙◌}
use mathlib.Core.Bool.{true, true≢false}
use mathlib.Core.List.{List, []}
use Prim.Native.Nat.{ℕ, ◌≤◌, ◌<◌}
use native.Mathlib.Omega.{arith}
use lib.ListN.{length}
use Rattle.std.proofs.Common.{Bor}
use Rattle.std.specs.Prelude.{Option, Some, None, IsSome, option_copied}
use Rattle.std.specs.List.{slice_get}
use Rattle.std.proofs.lemmas.Option.{slice_get-get_or, same_Some, none-some}
use Rattle.words.specs.Turn.{turned}
use Rattle.words.specs.Place.{place_of, found}
use Rattle.words.proofs.Deciding.{holds}
use Rattle.words.proofs.Lists.{each_in}
use Rattle.lists.specs.Runs.{codes_in}
use Rattle.lists.specs.Rules.{CodeRule, FitList}
use Rattle.lists.proofs.Runs.{codes_count}
use Rattle.lists.proofs.Rules.{is_fit_list}
use Rattle.greedy.specs.Dropping.{code_at}
use Rattle.greedy.proofs.Keeping.{code_in_lem}
use Rattle.finding.specs.declared.Way.{Way}
use Rattle.finding.specs.Answers.{place_in}
use Rattle.places.specs.Starts.{StartsWithin}
use Rattle.places.specs.Calls.{HasPlace}
use Rattle.places.proofs.Finding.{starts_within}

-- what is found is there
is_some : (o : Option (Way ℕ)) → found (place_in o) ≡ true → IsSome o
is_some (Some w) e = refl
is_some None e = absurd (true≢false (sym e))

-- a word that is given is there, and it is the one
word_there : (r : Option (Bor (List ℕ))) {c : List ℕ} → option_copied r ≡ Some c → IsSome r
word_there (Some w) e = refl
word_there None {c} e = absurd (none-some c e)

word_is : {r : Option (Bor (List ℕ))} {w : Bor (List ℕ)} {c : List ℕ} → r ≡ Some w → option_copied r ≡ Some c → w.now ≡ c
word_is {r} {w} {c} g e = same_Some w.now c (sym (ap option_copied g) ∙ e)

module _ {run ls row : List ℕ} {i : ℕ} (h : HasPlace run ls row i) where
  abbrev fit : FitList run ls
  fit = holds (is_fit_list run ls) h.fit

  pub few : i < 128
  few = omega (arith, fit.at_most, h.listed)

  there : i < length (codes_in run ls)
  there = omega (arith, codes_count run ls, h.listed)

  code : CodeRule (code_at (codes_in run ls) i)
  code = each_in CodeRule (codes_in run ls) (code_at (codes_in run ls) i) fit.coded (code_in_lem (codes_in run ls) i there)

  -- item i of the run
  module _ (r : Option (Bor (List ℕ))) (g : option_copied r ≡ slice_get (codes_in run ls) i) where
    item : option_copied r ≡ Some (code_at (codes_in run ls) i)
    item = g ∙ slice_get-get_or (codes_in run ls) i [] there

    pub nth_there : IsSome r
    nth_there = word_there r item

    module _ {w : Bor (List ℕ)} (t : r ≡ Some w) where
      is_code : w.now ≡ code_at (codes_in run ls) i
      is_code = word_is t item

      pub nth_size : (0 < length w.now) × (length w.now ≤ 64)
      nth_size = rw is_code (code.0, code.1)

      module _ (o : Option (Way ℕ)) (f : place_in o ≡ place_of turned 0 w.now row) where
        is_place : place_in o ≡ place_of turned 0 (code_at (codes_in run ls) i) row
        is_place = f ∙ ap (λ (c : List ℕ). place_of turned 0 c row) is_code

        pub one_starts : StartsWithin 16384 (place_in o)
        one_starts = subst (StartsWithin 16384) (sym is_place) (starts_within (code_at (codes_in run ls) i) row h.short h.stands)
