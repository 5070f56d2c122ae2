-- Looking for a word at each start of a row and at its end: it stands there if it begins at one of them.
use mathlib.Core.Path.{◌≡◌, refl, ap, ◌∙◌}
use mathlib.Core.Bool.{Bool, true, false, ◌||◌}
use mathlib.Core.List.{List, [], ◌∷◌}
use Prim.Native.Nat.{ℕ, zero, suc, ◌+◌, ◌-◌}
use native.Mathlib.Numerals.{add-one}
use native.Mathlib.Omega.{arith}
use lib.ListN.{length, take, drop, get_or, length-drop, drop_of_length-le}
use lib.Seq.{take_all}
use Rattle.std.specs.List.{list_any, range_with_len}
use Rattle.words.specs.Stand.{begins, stands_in}
use Rattle.matching.proofs.Comparing.{drop_one}

or_false : (p : Bool) → (p || false) ≡ p
or_false true = refl
or_false false = refl

module _ (c s : List ℕ) where
  -- it begins at start i
  abbrev pub begins_at : ℕ → Bool
  begins_at i = begins c (take (length s - i) (drop i s))

  part : (i : ℕ) → take (length s - i) (drop i s) ≡ drop i s
  part i = take_all (length s - i) (drop i s) (omega (arith, length-drop i s))

  any_begins : (i n : ℕ) → i + n ≡ length s → list_any begins_at (range_with_len i (suc n)) ≡ stands_in c (drop i s)
  any_begins i zero e =
      let d : drop i s ≡ [] = drop_of_length-le s (omega (arith, e)) in
      or_false (begins_at i) ∙ ap (begins c) (part i ∙ d) ∙ rw d refl
  any_begins i (suc n) e =
      let d : drop i s ≡ get_or s i 0 ∷ drop (i + 1) s = drop_one s i (omega (arith, e)) in
      let first : (begins_at i || stands_in c (drop (i + 1) s)) ≡ stands_in c (drop i s) = rw (part i, d) refl in
      ap (λ (t : Bool). begins_at i || t) (any_begins (i + 1) n (omega (arith, e)))
      ∙ first

  pub any_stands : list_any begins_at (range_with_len 0 (length s + 1)) ≡ stands_in c s
  any_stands = rw (add-one (length s)) (any_begins 0 (length s) (omega arith))
