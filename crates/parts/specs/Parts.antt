-- Codes as parts of one run of bands.
use Rattle.std.specs.Prelude.{List, map, ℕ, ◌≤◌, length}
use Rattle.std.specs.Borrow.{Bor}
use Rattle.greedy.specs.Dropping.{code_at}

-- the bands that lent codes have
abbrev pub lent : List (Bor (List ℕ)) → List (List ℕ)
lent codes = map (λ c. c.now) codes

-- no code is longer than one may be (there are no bands behind the last code)
abbrev pub Short : List (List ℕ) → Type 0
Short codes = (k : ℕ) → length (code_at codes k) ≤ 64
