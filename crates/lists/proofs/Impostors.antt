-- Wrong tests of lists and of names, each written out and caught by its claim on a named list.
-- All are one test with its limits and comparisons open: with the right ones it is ours, and with each wrong one it
-- answers that list otherwise than ours.
use mathlib.Core.Path.{◌≡◌, refl, sym, ◌∙◌}
use mathlib.Core.Bool.{Bool, true, false, ◌&&◌, ◌||◌, true≢false}
use mathlib.Core.List.{List, [], ◌∷◌}
use Prim.Native.Nat.{ℕ}
use lib.Dec.{eqb, leb}
use lib.ListN.{length, replicate}
use Rattle.words.specs.Texts.{text}
use Rattle.lists.specs.Runs.{codes_in, total}
use Rattle.lists.specs.Rules.{ChecksCodes, ChecksNames}
use Rattle.lists.specs.Fit.{all, is_band, name_ok_lem, sum_ok, all_once_lem, list_ok_lem, names_ok_lem}
use Rattle.lists.proofs.Rules.{codes_only, names_only}

-- Codes: at most so many; a length's least and most; how the lengths' sum compares with the run; the last band
abbrev list_by : ℕ → ℕ → ℕ → (ℕ → ℕ → Bool) → ℕ → List ℕ → List ℕ → Bool
list_by most least longest compare last run ls =
    (leb 1 (length ls) && leb (length ls) most)
    && (all (λ n. leb least n && leb n longest) ls
    && (compare (total ls) (length run) && all (λ b. leb 65 b && leb b last) run))

pub right_list : (run ls : List ℕ) → list_by 128 1 64 eqb 90 run ls ≡ list_ok_lem run ls
right_list run ls = refl

module _ (ok : List ℕ → List ℕ → Bool) (run ls : List ℕ) where
  passes_wrongly : ok run ls ≡ true → list_ok_lem run ls ≡ false → ChecksCodes ok → ⊥
  passes_wrongly p r h = true≢false (sym p ∙ codes_only ok h run ls ∙ r)

  refuses_wrongly : ok run ls ≡ false → list_ok_lem run ls ≡ true → ChecksCodes ok → ⊥
  refuses_wrongly r p h = true≢false (sym p ∙ sym (codes_only ok h run ls) ∙ r)

-- 129 codes of one band
pub not_129_codes : ChecksCodes (list_by 129 1 64 eqb 90) → ⊥
not_129_codes = passes_wrongly _ (replicate 129 65) (replicate 129 1) refl refl

-- one code of 65 bands
pub not_65_bands : ChecksCodes (list_by 128 1 65 eqb 90) → ⊥
not_65_bands = passes_wrongly _ (replicate 65 65) (65 ∷ []) refl refl

-- a code of no bands after A
pub not_length_0 : ChecksCodes (list_by 128 0 64 eqb 90) → ⊥
not_length_0 = passes_wrongly _ (text "A") (1 ∷ 0 ∷ []) refl refl

-- a run of AA for the one code A
pub not_lesser_sum : ChecksCodes (list_by 128 1 64 leb 90) → ⊥
not_lesser_sum = passes_wrongly _ (text "AA") (1 ∷ []) refl refl

-- the code [, whose byte comes after Z
pub not_after_z : ChecksCodes (list_by 128 1 64 eqb 91) → ⊥
not_after_z = passes_wrongly _ (91 ∷ []) (1 ∷ []) refl refl

-- every list turned away, that of the one code A too
pub not_every_refused : ChecksCodes (list_by 0 1 64 eqb 90) → ⊥
not_every_refused = refuses_wrongly _ (text "A") (1 ∷ []) refl refl

-- The limits themselves: 128 codes and 64 bands pass; A and Z are bands, the bytes before and after them are none.
pub limits_pass : (list_ok_lem (replicate 128 65) (replicate 128 1) && list_ok_lem (replicate 64 65) (64 ∷ [])) ≡ true
limits_pass = refl

pub bands_are : (is_band 65 && is_band 90) ≡ true
bands_are = refl

pub bands_end : (is_band 64 || is_band 91) ≡ false
bands_end = refl

-- Names of 1 and 24 bytes pass, of 0 and 25 they don't; bytes hexadecimal 20 and 7E pass, 1F and 7F don't.
pub names_pass : (name_ok_lem (replicate 1 32) && name_ok_lem (replicate 24 126)) ≡ true
names_pass = refl

pub names_end : (name_ok_lem [] || (name_ok_lem (replicate 25 65) || (name_ok_lem (31 ∷ []) || name_ok_lem (127 ∷ [])))) ≡ false
names_end = refl

-- Names: how their number compares with that of the codes, and how often one may be used
abbrev names_by : (ℕ → ℕ → Bool) → (List (List ℕ) → Bool) → ℕ → List ℕ → List ℕ → Bool
names_by compare used codes run ls =
    compare (length ls) codes
    && (sum_ok run ls && (all name_ok_lem (codes_in run ls) && used (codes_in run ls)))

pub right_names : (codes : ℕ) (run ls : List ℕ) → names_by eqb all_once_lem codes run ls ≡ names_ok_lem codes run ls
right_names codes run ls = refl

name_passes_wrongly : (ok : ℕ → List ℕ → List ℕ → Bool) (codes : ℕ) (run ls : List ℕ) → ok codes run ls ≡ true
    → names_ok_lem codes run ls ≡ false → ChecksNames ok → ⊥
name_passes_wrongly ok codes run ls p r h = true≢false (sym p ∙ names_only ok h codes run ls ∙ r)

-- two codes, both named A
pub not_used_twice : ChecksNames (names_by eqb (λ ns. true)) → ⊥
not_used_twice = name_passes_wrongly _ 2 (text "AA") (1 ∷ 1 ∷ []) refl refl

-- two codes and the one name A
pub not_fewer_names : ChecksNames (names_by leb all_once_lem) → ⊥
not_fewer_names = name_passes_wrongly _ 2 (text "A") (1 ∷ []) refl refl
