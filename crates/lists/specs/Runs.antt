-- A list of words is handed over as one run of bytes and a length for each word; each word is a part of the run.
use Rattle.std.specs.Prelude.{List, [], ◌∷◌, ◌++◌, map, ℕ, ◌+◌, length, take, drop}

-- the words of a run, by their lengths
abbrev pub codes_in : List ℕ → List ℕ → List (List ℕ)
codes_in run [] = []
codes_in run (n ∷ ns) = take n run ∷ codes_in (drop n run) ns

abbrev pub total : List ℕ → ℕ
total [] = 0
total (n ∷ ns) = n + total ns

-- and back: the run of a list of words, and their lengths
abbrev pub flat : List (List ℕ) → List ℕ
flat [] = []
flat (c ∷ cs) = c ++ flat cs

abbrev pub lengths : List (List ℕ) → List ℕ
lengths cs = map length cs

-- what a buffer holds after xs was written at its beginning: bytes past the result keep what they had
abbrev pub over : {A : Type 0} → List A → List A → List A
over xs buffer = xs ++ drop (length xs) buffer
