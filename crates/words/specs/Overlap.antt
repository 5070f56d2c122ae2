-- The overlap of two words: the length of the longest ending of the one that is also a beginning of the other.
use Rattle.std.specs.Prelude.{◌≡◌, Bool, true, false, List, ◌++◌, ℕ, zero, suc, ◌-◌, ◌≤◌, leb, length, take, drop}
use Rattle.words.specs.Tests.{pick, same}

-- a ends in o bands with which b begins
pub record Shares (a b : List ℕ) (o : ℕ) : Type 0 where
  pub rest : List ℕ
  pub shared : List ℕ
  pub more : List ℕ
  pub ending : a ≡ rest ++ shared
  pub beginning : b ≡ shared ++ more
  pub size : length shared ≡ o

pub record Longest (a b : List ℕ) (o : ℕ) : Type 0 where
  pub shares : Shares a b o
  pub most : (m : ℕ) → Shares a b m → m ≤ o

-- The claim that pins `overlap`.
abbrev pub Overlaps : (List ℕ → List ℕ → ℕ) → Type 0
Overlaps w = (a b : List ℕ) → Longest a b (w a b)

-- Computed from above: the longest that is shared of at most k bands.
pub record LongestWithin (k : ℕ) (a b : List ℕ) (o : ℕ) : Type 0 where
  pub shares : Shares a b o
  pub within : o ≤ k
  pub most : (m : ℕ) → m ≤ k → Shares a b m → m ≤ o

-- the last k bands of a are the first k of b
abbrev pub agrees : List ℕ → List ℕ → ℕ → Bool
agrees a b k = same (drop (length a - k) a) (take k b)

abbrev pub overlap_from : ℕ → List ℕ → List ℕ → ℕ
overlap_from zero a b = 0
overlap_from (suc o) a b = elim (agrees a b (suc o)) [
  | true ↦ suc o
  | false ↦ overlap_from o a b
]

abbrev pub overlap : List ℕ → List ℕ → ℕ
overlap a b = overlap_from (pick (leb (length a) (length b)) (length a) (length b)) a b
