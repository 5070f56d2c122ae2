-- What `all` and `any` answer over the words of a run is what the tests of the rules say.
use mathlib.Core.Path.{◌≡◌, refl}
use mathlib.Core.Bool.{Bool, ◌&&◌, ◌||◌}
use mathlib.Core.List.{List}
use Prim.Native.Nat.{ℕ}
use Rattle.std.specs.List.{list_all, list_any}
use Rattle.std.proofs.lemmas.List.Recursion.{same_from_clauses}
use Rattle.words.specs.Tests.{same}
use Rattle.lists.specs.Fit.{all, is_in}

pub all_is : {A : Type 0} (p : A → Bool) (xs : List A) → list_all p xs ≡ all p xs
all_is p xs = same_from_clauses (list_all p) (all p) (λ x b. p x && b) refl (λ _ _. refl) (λ _ _. refl) xs

pub any_is : (x : List ℕ) (ys : List (List ℕ)) → list_any (same x) ys ≡ is_in x ys
any_is x ys = same_from_clauses (list_any (same x)) (is_in x) (λ y b. same x y || b) refl (λ _ _. refl) (λ _ _. refl) ys
