-- Comparing all bands of one word with the first of another, number by number, is the test whether it begins the other.
use mathlib.Core.Path.{◌≡◌, refl, sym, ap, ◌∙◌}
use mathlib.Core.Bool.{Bool, false, ◌&&◌}
use mathlib.Core.List.{List, [], ◌∷◌}
use Prim.Native.Nat.{ℕ, zero, suc, ◌+◌, ◌≤◌, ◌<◌}
use native.Mathlib.Numerals.{add-one}
use native.Mathlib.Omega.{arith}
use lib.Dec.{eqb}
use lib.ListN.{length, drop, get_or, length-append, drop_of_length-le}
use lib.Seq.{drop-cons}
use Rattle.std.specs.List.{list_all, range_with_len}
use Rattle.words.specs.Stand.{begins}
use Rattle.words.proofs.Deciding.{refuses}
use Rattle.words.proofs.Standing.{is_beginning}

pub drop_one : (a : List ℕ) (i : ℕ) → i < length a → drop i a ≡ get_or a i 0 ∷ drop (i + 1) a
drop_one a i l = drop-cons a i 0 l ∙ ap (λ (j : ℕ). get_or a i 0 ∷ drop j a) (sym (add-one i))

-- band i of both is the same
abbrev pub alike : List ℕ → List ℕ → ℕ → Bool
alike a b i = eqb (get_or a i 0) (get_or b i 0)

module _ (a b : List ℕ) (l : length a ≤ length b) where
  pub all_alike : (i n : ℕ) → i + n ≡ length a → list_all (alike a b) (range_with_len i n) ≡ begins (drop i a) (drop i b)
  all_alike i zero e = let d : drop i a ≡ [] = drop_of_length-le a (omega (arith, e)) in rw d refl
  all_alike i (suc n) e =
      rw (drop_one a i (omega (arith, e)), drop_one b i (omega (arith, e, l)))
      (ap (λ (t : Bool). alike a b i && t) (all_alike (i + 1) n (omega (arith, e))))

pub begins_longer : (a b : List ℕ) → length b < length a → begins a b ≡ false
begins_longer a b l =
    refuses (is_beginning a b) (λ h. omega (arith, simp length-append at (ap length h.1)))
