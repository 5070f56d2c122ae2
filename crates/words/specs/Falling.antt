-- Pattern matching as in document 000, section 2.1 (Knuth, Morris and Pratt): one pass along a word a holds after each band a
-- beginning of a word b (the state of the automaton), and falls back to a shorter one where the next band does not follow.
use Rattle.std.specs.Prelude.{◌≡◌, List, [], ◌∷◌, ◌++◌, ℕ, ◌-◌, ◌≤◌, ◌<◌, length, take, drop, get_or}
use Rattle.words.specs.Overlap.{Shares, Longest, overlap}

-- the match held after the first i bands of a: the longest beginning of b that ends there has m bands
abbrev pub Held : List ℕ → List ℕ → ℕ → ℕ → Type 0
Held a b i m = Longest (take i a) b m

-- the same at the end of the last k bands of a, whatever stands before them
abbrev pub HeldAtEnd : List ℕ → List ℕ → ℕ → ℕ → Type 0
HeldAtEnd a b k m = Held (drop (length a - k) a) b k m

-- the fall-back from the first k bands of b (their longest border): the longest shorter beginning of b with which they end
-- has f bands
pub record FallBack (b : List ℕ) (k f : ℕ) : Type 0 where
  pub shorter : f < k
  pub ends : Shares (take k b) b f
  pub longest : (m : ℕ) → m < k → Shares (take k b) b m → m ≤ f

-- The claim that pins a pass, after each band of each word; and the one that pins the fall-backs, from each beginning.
abbrev pub Holds : (List ℕ → List ℕ → ℕ → ℕ) → Type 0
Holds g = (a b : List ℕ) (i : ℕ) → i ≤ length a → Held a b i (g a b i)

abbrev pub FallsBack : (List ℕ → ℕ → ℕ) → Type 0
FallsBack g = (b : List ℕ) (k : ℕ) → 0 < k → k ≤ length b → FallBack b k (g b k)

-- Computed by the overlap with b: of what is passed, and of a beginning without its first band.
abbrev pub held_after : List ℕ → List ℕ → ℕ → ℕ
held_after a b i = overlap (take i a) b

abbrev pub fall_back : List ℕ → ℕ → ℕ
fall_back b k = overlap (drop 1 (take k b)) b

-- What the routines are told and tell.
-- a row has at each k from 1 to n the fall-back from the first k bands of b
pub record FallBacks (b falls : List ℕ) (n : ℕ) : Type 0 where
  pub room : n < length falls
  pub each : (k : ℕ) → 0 < k → k ≤ n → FallBack b k (get_or falls k 0)

-- a row that is filled up to n bands, the first one at least, suffices for a match of m
pub record Filled (b falls : List ℕ) (n m : ℕ) : Type 0 where
  pub first : 0 < n
  pub known : m ≤ n
  pub row : FallBacks b falls n

-- band x follows the first k bands in b
abbrev pub Follows : List ℕ → ℕ → ℕ → Type 0
Follows b k x = (k < length b) × (get_or b k 0 ≡ x)

-- one band further: whatever was passed while m was held, with band x behind it r is held
abbrev pub Advances : List ℕ → ℕ → ℕ → ℕ → Type 0
Advances b m x r = (t : List ℕ) → Longest t b m → Longest (t ++ (x ∷ [])) b r
