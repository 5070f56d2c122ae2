-- Document 01's rules for bands, codes, names and lists, as statements; refusal 12 is that one of them is broken.
use Rattle.std.specs.Prelude.{◌≡◌, ◌≢◌, Bool, List, ℕ, ◌≤◌, ◌<◌, length}
use Rattle.words.specs.Lists.{In, Each, Once}
use Rattle.words.specs.Decides.{Decides}
use Rattle.lists.specs.Runs.{codes_in, total, flat, lengths}

-- a band (a symbol of the alphabet) is a byte A to Z
abbrev pub Band : ℕ → Type 0
Band b = (65 ≤ b) × (b ≤ 90)

-- a code (a string) has 1 to 64 bands
abbrev pub CodeRule : List ℕ → Type 0
CodeRule c = (1 ≤ length c) × (length c ≤ 64) × Each Band c

-- a name has 1 to 24 bytes, hexadecimal 20 to 7E
abbrev pub Printed : ℕ → Type 0
Printed b = (32 ≤ b) × (b ≤ 126)

abbrev pub NameRule : List ℕ → Type 0
NameRule n = (1 ≤ length n) × (length n ≤ 24) × Each Printed n

-- A list handed over by other code has no codes or over 128, a length of 0 or over 64, lengths that don't add up to the
-- run, a byte outside A to Z,
pub data FalseCodes (run ls : List ℕ) : Type 0 where
  no_codes : length ls ≡ 0 → FalseCodes run ls
  too_many : 128 < length ls → FalseCodes run ls
  no_length : In 0 ls → FalseCodes run ls
  too_long : (n : ℕ) → In n ls → 64 < n → FalseCodes run ls
  other_sum : total ls ≢ length run → FalseCodes run ls
  no_band : (b : ℕ) → In b run → (Band b → ⊥) → FalseCodes run ls

-- or, where names come with it, names that aren't one a code, whose lengths don't add up to their run, or that break the
-- rule for names; one that is used twice breaks it.
pub data FalseNames (codes : ℕ) (run ls : List ℕ) : Type 0 where
  other_count : length ls ≢ codes → FalseNames codes run ls
  other_names_sum : total ls ≢ length run → FalseNames codes run ls
  no_name : (n : List ℕ) → In n (codes_in run ls) → (NameRule n → ⊥) → FalseNames codes run ls
  used_twice : (Once (codes_in run ls) → ⊥) → FalseNames codes run ls

-- What is left when no clause refuses: the run and the lengths are those of words that keep the rules.
pub record FitList (run ls : List ℕ) : Type 0 where
  pub some : 1 ≤ length ls
  pub at_most : length ls ≤ 128
  pub coded : Each CodeRule (codes_in run ls)
  pub joined : flat (codes_in run ls) ≡ run
  pub as_long : lengths (codes_in run ls) ≡ ls

pub record FitNames (codes : ℕ) (run ls : List ℕ) : Type 0 where
  pub one_each : length ls ≡ codes
  pub named : Each NameRule (codes_in run ls)
  pub once : Once (codes_in run ls)
  pub joined : flat (codes_in run ls) ≡ run
  pub as_long : lengths (codes_in run ls) ≡ ls

-- The claims that pin the tests: a test passes exactly the lists that no clause refuses.
abbrev pub ChecksCodes : (List ℕ → List ℕ → Bool) → Type 0
ChecksCodes ok = (run ls : List ℕ) → Decides (FalseCodes run ls → ⊥) (ok run ls)

abbrev pub ChecksNames : (ℕ → List ℕ → List ℕ → Bool) → Type 0
ChecksNames ok = (codes : ℕ) (run ls : List ℕ) → Decides (FalseNames codes run ls → ⊥) (ok codes run ls)
