-- That a number is in a list is decided by a test, which computes where both are written out.
use mathlib.Core.Path.{◌≡◌}
use mathlib.Core.Bool.{Bool, true, false, ◌||◌}
use mathlib.Core.List.{List, [], ◌∷◌}
use Prim.Native.Nat.{ℕ}
use lib.Dec.{eqb}
use Rattle.words.specs.Lists.{In}
use Rattle.words.specs.Decides.{Decides, no}
use Rattle.words.proofs.Deciding.{holds, decides_or, is_eq}

abbrev pub is_listed : ℕ → List ℕ → Bool
is_listed n [] = false
is_listed n (k ∷ ks) = eqb n k || is_listed n ks

pub is_listed_lem : (n : ℕ) (ks : List ℕ) → Decides (In n ks) (is_listed n ks)
is_listed_lem n [] = no (λ h. h)
is_listed_lem n (k ∷ ks) = decides_or (is_eq n k) (is_listed_lem n ks)

pub listed : (n : ℕ) (ks : List ℕ) → is_listed n ks ≡ true → In n ks
listed n ks e = holds (is_listed_lem n ks) e
