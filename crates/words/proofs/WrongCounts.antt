-- Wrong counts of the starts at which a word stands, each written out and caught by the claim. They are instances of one
-- count with its parts open: what a start counts for, and where the count goes on behind a start that counts.
use mathlib.Core.Path.{◌≡◌, refl}
use mathlib.Core.Bool.{◌||◌}
use mathlib.Core.List.{List, [], ◌∷◌}
use Prim.Native.Nat.{ℕ, zero, suc, ◌+◌, ◌-◌}
use native.Mathlib.Omega.{arith}
use lib.ListN.{length}
use Rattle.words.specs.Tests.{pick}
use Rattle.words.specs.Turn.{turned}
use Rattle.words.specs.Stand.{begins}
use Rattle.words.specs.Count.{Counts, count_of}
use Rattle.words.specs.Texts.{text}
use Rattle.words.proofs.Counting.{counts_only}

-- here is what a start counts for; next is how many starts behind it are left out
abbrev count_by : (List ℕ → List ℕ → ℕ) → (List ℕ → ℕ → ℕ) → ℕ → List ℕ → List ℕ → ℕ
count_by here next zero c [] = here c []
count_by here next (suc k) c [] = 0
count_by here next zero c (b ∷ s) = here c (b ∷ s) + count_by here next (next c (here c (b ∷ s))) c s
count_by here next (suc k) c (b ∷ s) = count_by here next k c s

-- either way once; each way for itself; the given way only
abbrev either_way : List ℕ → List ℕ → ℕ
either_way c s = pick (begins c s || begins (turned c) s) 1 0

abbrev both_ways : List ℕ → List ℕ → ℕ
both_ways c s = pick (begins c s) 1 0 + pick (begins (turned c) s) 1 0

abbrev given_way : List ℕ → List ℕ → ℕ
given_way c s = pick (begins c s) 1 0

-- every start; only starts behind the end of the one counted before
abbrev every : List ℕ → ℕ → ℕ
every c n = 0

abbrev behind_it : List ℕ → ℕ → ℕ
behind_it c zero = 0
behind_it c (suc n) = length c - 1

-- the right one; both ways counted where they stand at one start; no overlapping; given only; the first start left out
abbrev each_once : List ℕ → List ℕ → ℕ
each_once = count_by either_way every 0

abbrev twice : List ℕ → List ℕ → ℕ
twice = count_by both_ways every 0

abbrev apart : List ℕ → List ℕ → ℕ
apart = count_by either_way behind_it 0

abbrev given_count : List ℕ → List ℕ → ℕ
given_count = count_by given_way every 0

abbrev not_the_first : List ℕ → List ℕ → ℕ
not_the_first = count_by either_way every 1

pub each_once_is_ours : (c s : List ℕ) → each_once c s ≡ count_of turned c s
each_once_is_ours c [] = refl
each_once_is_ours c (b ∷ s) = cc (each_once_is_ours c s)

pub not_twice : Counts turned twice → ⊥
unfolding turned
not_twice h =
    let e : ◌≡◌ {A = ℕ} 2 1 = counts_only twice h (text "ABA") (text "ABA") in
    omega arith

pub not_apart : Counts turned apart → ⊥
unfolding turned
not_apart h =
    let e : ◌≡◌ {A = ℕ} 2 3 = counts_only apart h (text "AA") (text "AAAA") in
    omega arith

pub not_given_count : Counts turned given_count → ⊥
unfolding turned
not_given_count h =
    let e : ◌≡◌ {A = ℕ} 1 2 = counts_only given_count h (text "AB") (text "ABA") in
    omega arith

pub not_the_first_lem : Counts turned not_the_first → ⊥
unfolding turned
not_the_first_lem h =
    let e : ◌≡◌ {A = ℕ} 0 1 = counts_only not_the_first h (text "A") (text "A") in
    omega arith
