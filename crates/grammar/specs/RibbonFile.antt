-- A ribbon file holds bands, and one CR LF at its very end is not part of them.
use Rattle.std.specs.Prelude.{◌≡◌, List, ◌++◌, ℕ, ◌-◌, length, take, drop}
use Rattle.words.specs.Tests.{pick, same}
use Rattle.grammar.specs.Files.{line_break}

-- a file, and the ribbon that it holds
pub data RibbonFile (s : List ℕ) : List ℕ → Type 0 where
  ended : {r : List ℕ} → s ≡ r ++ line_break → RibbonFile s r
  not_ended : ((r : List ℕ) → s ≡ r ++ line_break → ⊥) → RibbonFile s s

-- The claim on what takes the ribbon out of a file.
abbrev pub Takes : (List ℕ → List ℕ) → Type 0
Takes out = (s : List ℕ) → RibbonFile s (out s)

-- the bytes before the last two if these are CR LF, else all
abbrev pub ribbon_of_lem : List ℕ → List ℕ
ribbon_of_lem s = let n = length s - 2 in pick (same (drop n s) line_break) (take n s) s
