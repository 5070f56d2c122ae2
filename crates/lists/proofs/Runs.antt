-- A run cut into words and joined again is as before, and words joined into a run and cut again are as before: each by
-- induction over the words, or over their lengths. And the part of a run between two marks.
use mathlib.Core.Path.{◌≡◌, refl, ap, ◌∙◌}
use mathlib.Core.List.{List, [], ◌∷◌, ◌++◌, append_assoc}
use Prim.Native.Nat.{ℕ, zero, suc, ◌+◌, ◌-◌, ◌≤◌, ◌<◌}
use native.Mathlib.Numerals.{add-one}
use native.Mathlib.Omega.{arith}
use lib.ListN.{length, get_or, take, drop, set, length-append, length-drop, take-append-drop}
use lib.Seq.{length-take-le, take_all, take_at, take-suc, drop_at, drop-cons, set_at}
use Rattle.words.specs.Written.{Written}
use Rattle.lists.specs.Runs.{codes_in, total, flat, lengths, over}

-- from words to a run and back
pub cut_again : (cs : List (List ℕ)) → codes_in (flat cs) (lengths cs) ≡ cs
cut_again [] = refl
cut_again (c ∷ cs) = rw (take_at, drop_at, cut_again cs)

pub total-lengths : (cs : List (List ℕ)) → total (lengths cs) ≡ length (flat cs)
total-lengths [] = refl
total-lengths (c ∷ cs) = omega (arith, total-lengths cs, length-append c (flat cs))

-- numbers added up, of two rows and of one more
pub total-append : (xs ys : List ℕ) → total (xs ++ ys) ≡ total xs + total ys
total-append [] ys = omega arith
total-append (x ∷ xs) ys = omega (arith, total-append xs ys)

pub total_more : (ls : List ℕ) (i : ℕ) → i < length ls → total (take (suc i) ls) ≡ total (take i ls) + get_or ls i 0
total_more ls i h =
    let e : total (take (suc i) ls) ≡ total (take i ls ++ (get_or ls i 0 ∷ [])) = ap total (take-suc ls i 0 h) in
    omega (arith, total-append (take i ls) (get_or ls i 0 ∷ []))

-- the more of a row, the greater the sum
pub total_grows : (ls : List ℕ) (i j : ℕ) → i ≤ j → total (take i ls) ≤ total (take j ls)
total_grows ls zero j l = omega arith
total_grows [] (suc i) j l = omega arith
total_grows (n ∷ ls) (suc i) zero l = absurd (omega arith)
total_grows (n ∷ ls) (suc i) (suc j) l = omega (arith, total_grows ls i j (omega arith))

-- as many words as lengths
pub codes_count : (run ls : List ℕ) → length (codes_in run ls) ≡ length ls
codes_count run [] = refl
codes_count run (n ∷ ns) = ap suc (codes_count (drop n run) ns)

-- from a run to words and back, where the lengths add up to the run
pub rest_adds_up : (run : List ℕ) (n : ℕ) (ns : List ℕ) → total (n ∷ ns) ≡ length run → total ns ≡ length (drop n run)
rest_adds_up run n ns e = omega (arith, length-drop n run)

pub flat_again : (run ls : List ℕ) → total ls ≡ length run → flat (codes_in run ls) ≡ run
flat_again [] [] e = refl
flat_again (b ∷ run) [] e = absurd (omega arith)
flat_again run (n ∷ ns) e = rw (flat_again (drop n run) ns (rest_adds_up run n ns e)) (take-append-drop n run)

pub lengths_again : (run ls : List ℕ) → total ls ≡ length run → lengths (codes_in run ls) ≡ ls
lengths_again run [] e = refl
lengths_again run (n ∷ ns) e =
    cc (length-take-le n run (omega arith), lengths_again (drop n run) ns (rest_adds_up run n ns e))

-- and only there
pub adds_up : (run ls : List ℕ) → flat (codes_in run ls) ≡ run → lengths (codes_in run ls) ≡ ls → total ls ≡ length run
adds_up run ls f l = cc (total-lengths (codes_in run ls))

-- what is written from the beginning of a buffer on
pub written_over : {buffer xs after : List ℕ} {end : ℕ} → Written buffer 0 xs after end → (end ≡ length xs) × (after ≡ over xs buffer)
written_over {buffer} {xs} w =
    let e : 0 + length xs ≡ length xs = omega arith in (w.end_is ∙ e, w.after_is ∙ rw e)

pub over_written : (xs buffer : List ℕ) → Written buffer 0 xs (over xs buffer) (length xs)
over_written xs buffer =
    let e : length xs ≡ 0 + length xs = omega arith in
    record { after_is = ap (λ (n : ℕ). xs ++ drop n buffer) e; end_is = e }

-- Elements written over a list from its beginning, one after the other: after i of them the list is as long as it was, and
-- one more store is one more element written.
module _ {A : Type 0} (all ys : List A) (i : ℕ) where
  pub length_over : i ≤ length all → i ≤ length ys → length (over (take i all) ys) ≡ length ys
  length_over h k =
      let l : length (take i all) ≡ i = length-take-le i all h in
      rw l (omega (arith, length-append (take i all) (drop i ys), l, length-drop i ys))

  pub over_next : (d : A) → i < length all → i < length ys
      → set (over (take i all) ys) i (get_or all i d) ≡ over (take (i + 1) all) ys
  over_next d h k =
      let l : length (take i all) ≡ i = length-take-le i all (omega arith) in
      let m : length (take i all ++ (get_or all i d ∷ [])) ≡ suc i =
      omega (arith, length-append (take i all) (get_or all i d ∷ [])) in
      rw (add-one, take-suc all i d h, m, l, drop-cons ys i d k, append_assoc)
      (set_at (take i all) (get_or ys i d) (drop (suc i) ys) (get_or all i d) i l)

-- the part of a run from a mark to an end
abbrev pub up_to : List ℕ → ℕ → ℕ → List ℕ
up_to run mark end = take (end - mark) (drop mark run)

pub part_to : (run : List ℕ) (mark size : ℕ) → up_to run mark (mark + size) ≡ take size (drop mark run)
part_to run mark size = let e : (mark + size) - mark ≡ size = omega arith in rw e

pub to_end : (run : List ℕ) (mark : ℕ) → up_to run mark (length run) ≡ drop mark run
to_end run mark = take_all (length run - mark) (drop mark run) (omega (arith, length-drop mark run))
