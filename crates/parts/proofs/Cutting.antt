-- Words cut from a run of bands by their lengths.
use mathlib.Core.Path.{◌≡◌, refl, sym, ap, ◌∙◌}
use mathlib.Core.List.{List, [], ◌∷◌}
use Prim.Native.Nat.{ℕ, zero, suc, ◌+◌, ◌*◌, ◌≤◌, ◌<◌}
use native.Mathlib.Omega.{arith}
use lib.ListN.{length, take, drop, get_or, length-map}
use lib.Seq.{drop-drop}
use Rattle.std.specs.Borrow.{Bor}
use Rattle.std.proofs.Math.ListN.{get_or-map}
use Rattle.words.specs.Lists.{Each}
use Rattle.lists.specs.Handed.{words_of}
use Rattle.lists.specs.declared.handed.Run.{Run}
use Rattle.lists.specs.Runs.{codes_in, total, lengths}
use Rattle.lists.specs.Rules.{CodeRule, FitList}
use Rattle.lists.proofs.Runs.{codes_count}
use Rattle.greedy.specs.Dropping.{code_at}
use Rattle.parts.specs.Parts.{lent, Short}

pub total_part : (ls : List ℕ) (i : ℕ) → i < length ls → total (take i ls) + get_or ls i 0 ≤ total ls
total_part [] i h = absurd (omega arith)
total_part (n ∷ ls) zero h = omega arith
total_part (n ∷ ls) (suc i) h = omega (arith, total_part ls i (omega arith))

-- The parts that are cut are the codes of the run.
pub code_at_lem : (run ls : List ℕ) (k : ℕ) → k < length ls → code_at (codes_in run ls) k ≡ take (get_or ls k 0) (drop (total (take k ls)) run)
code_at_lem run [] k h = absurd (omega arith)
code_at_lem run (n ∷ ls) zero h = refl
code_at_lem run (n ∷ ls) (suc k) h =
    code_at_lem (drop n run) ls k (omega arith) ∙ ap (take (get_or ls k 0)) (drop-drop (total (take k ls)) n run)

-- what is cut from a run are its codes
pub cut_parts : (run : Run) {ks : List (List ℕ)} → ks ≡ words_of run → ks ≡ codes_in run.bytes.now run.sizes.now
cut_parts run e = e

-- a code among lent ones
pub lent_at : (codes : List (Bor (List ℕ))) (k : ℕ) {ks : List (List ℕ)} → lent codes ≡ ks
    → (get_or codes k (record { ref_ptr = (0, 0); now = [] })).now ≡ code_at ks k
lent_at codes k e =
    sym (get_or-map (λ (c : Bor (List ℕ)). c.now) codes k (record { ref_ptr = (0, 0); now = [] })) ∙ ap (λ (ks : List (List ℕ)). code_at ks k) e

pub lent_size : (codes : List (Bor (List ℕ))) {ks : List (List ℕ)} → lent codes ≡ ks → length codes ≡ length ks
lent_size codes e = sym (length-map codes (λ (c : Bor (List ℕ)). c.now)) ∙ ap length e

-- a code of a list that fits has some bands, and few
pub fit_size : {run ls : List ℕ} → FitList run ls → (i : ℕ) → i < length ls → (1 ≤ get_or ls i 0) × (get_or ls i 0 ≤ 64)
fit_size {run} {ls} fit i h = go run ls i h fit.coded fit.as_long
  where
    go : (run ls : List ℕ) (i : ℕ) → i < length ls → Each CodeRule (codes_in run ls) → lengths (codes_in run ls) ≡ ls
        → (1 ≤ get_or ls i 0) × (get_or ls i 0 ≤ 64)
    go run [] i l e q = absurd (omega arith)
    go run (n ∷ ls) zero l e q =
        let m : length (take n run) ≡ n = cc in
        (omega (arith, e.0.0), omega (arith, e.0.1))
    go run (n ∷ ls) (suc i) l e q = go (drop n run) ls i (omega arith) e.1 (cc)

-- the codes of a list that fits are few, and none is long
pub fit_few : {run ls : List ℕ} → FitList run ls → length (codes_in run ls) ≤ 128
fit_few {run} {ls} fit = omega (arith, codes_count run ls, fit.at_most)

pub fit_short : {run ls : List ℕ} → FitList run ls → Short (codes_in run ls)
fit_short {run} {ls} fit = short (codes_in run ls) fit.coded
  where
    short : (cs : List (List ℕ)) → Each CodeRule cs → Short cs
    short [] e k = omega arith
    short (c ∷ cs) e zero = e.0.1
    short (c ∷ cs) e (suc k) = short cs e.1 k

-- a list that fits has few bands
pub fit_small : {run ls : List ℕ} → FitList run ls → total ls < 65536
fit_small {run} {ls} fit =
    omega (
      arith,
      codes_total (codes_in run ls) fit.coded,
      ap total fit.as_long,
      ap length fit.as_long,
      codes_count run ls,
      fit.at_most,
      length-map (codes_in run ls) length,
    )
  where
    codes_total : (cs : List (List ℕ)) → Each CodeRule cs → total (lengths cs) ≤ 64 * length cs
    codes_total [] e = omega arith
    codes_total (c ∷ cs) e = omega (arith, e.0.1, codes_total cs e.1)
