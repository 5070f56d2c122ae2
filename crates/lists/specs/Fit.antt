-- The tests of the rules, each clause of refusal 12 one of its own.
use Rattle.std.specs.Prelude.{Bool, true, false, ◌&&◌, not, ◌||◌, List, [], ◌∷◌, ℕ, eqb, leb, length}
use Rattle.words.specs.Tests.{same}
use Rattle.lists.specs.Runs.{codes_in, total}

-- p is true of each of the list
abbrev pub all : {A : Type 0} → (A → Bool) → List A → Bool
all p [] = true
all p (x ∷ xs) = p x && all p xs

abbrev pub is_in : List ℕ → List (List ℕ) → Bool
is_in x [] = false
is_in x (y ∷ ys) = same x y || is_in x ys

-- from low to high
abbrev pub between : ℕ → ℕ → ℕ → Bool
between low high n = leb low n && leb n high

-- bands, codes and names
abbrev pub is_band : ℕ → Bool
is_band b = between 65 90 b

abbrev pub all_bands_lem : List ℕ → Bool
all_bands_lem s = all is_band s

abbrev pub plain : ℕ → Bool
plain b = between 32 126 b

abbrev pub name_ok_lem : List ℕ → Bool
name_ok_lem n = leb 1 (length n) && (leb (length n) 24 && all plain n)

-- the clauses of 12
abbrev pub count_ok : List ℕ → Bool
count_ok ls = leb 1 (length ls) && leb (length ls) 128

abbrev pub lengths_ok_lem : List ℕ → Bool
lengths_ok_lem ls = all (between 1 64) ls

abbrev pub sum_ok : List ℕ → List ℕ → Bool
sum_ok run ls = eqb (total ls) (length run)

abbrev pub all_once_lem : List (List ℕ) → Bool
all_once_lem [] = true
all_once_lem (n ∷ ns) = not (is_in n ns) && all_once_lem ns

abbrev pub list_ok_lem : List ℕ → List ℕ → Bool
list_ok_lem run ls = count_ok ls && (lengths_ok_lem ls && (sum_ok run ls && all_bands_lem run))

abbrev pub names_ok_lem : ℕ → List ℕ → List ℕ → Bool
names_ok_lem codes run ls =
    let ns = codes_in run ls in
    eqb (length ls) codes && (sum_ok run ls && (all name_ok_lem ns && all_once_lem ns))
