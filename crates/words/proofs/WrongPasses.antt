-- Wrong passes and wrong fall-backs, each written out and caught by its claim: a claim has one outcome, so an impostor is
-- caught where what it gives is not what ours gives. Passes are instances of one definition, by what is held one band further.
use mathlib.Core.Path.{◌≡◌, ap, ◌∙◌}
use mathlib.Core.List.{List, [], ◌∷◌, ◌++◌, append-nil, append_assoc}
use Prim.Native.Nat.{ℕ, suc, ◌-◌}
use native.Mathlib.Omega.{arith}
use lib.Dec.{eqb}
use lib.ListN.{length, take, get_or}
use Rattle.words.specs.Tests.{pick}
use Rattle.words.specs.Stand.{stands_in}
use Rattle.words.specs.Overlap.{Longest, Overlaps, overlap}
use Rattle.words.specs.Falling.{Holds, FallsBack, held_after}
use Rattle.words.specs.Texts.{text}
use Rattle.words.proofs.Overlaps.{longest_only, overlaps_ours, overlaps_only}
use Rattle.words.proofs.Falling.{held_none, advances_so}
use Rattle.words.proofs.FallBacks.{holds_only, falls_back_only}

-- Fall-backs: one band shorter, with which the beginning need not end; to nothing, which need not be the longest; to the
-- beginning itself, which is not shorter
abbrev one_shorter : List ℕ → ℕ → ℕ
one_shorter b k = k - 1

abbrev to_nothing : List ℕ → ℕ → ℕ
to_nothing b k = 0

abbrev to_itself : List ℕ → ℕ → ℕ
to_itself b k = k

pub not_one_shorter : FallsBack one_shorter → ⊥
not_one_shorter h =
    let e : ◌≡◌ {A = ℕ} 1 0 = falls_back_only one_shorter h (text "AB") 2 (omega arith) (omega arith) in
    omega arith

pub not_to_nothing : FallsBack to_nothing → ⊥
not_to_nothing h =
    let e : ◌≡◌ {A = ℕ} 0 1 = falls_back_only to_nothing h (text "AA") 2 (omega arith) (omega arith) in
    omega arith

pub not_to_itself : FallsBack to_itself → ⊥
not_to_itself h =
    let e : ◌≡◌ {A = ℕ} 1 0 = falls_back_only to_itself h (text "A") 1 (omega arith) (omega arith) in
    omega arith

-- Passes: m bands of b are held, then each band x of what is left is passed
abbrev pass_by : (List ℕ → ℕ → ℕ → ℕ) → List ℕ → ℕ → List ℕ → ℕ
pass_by step b m [] = m
pass_by step b m (x ∷ t) = pass_by step b (step b m x) t

-- what a text and x share with b
abbrev with_next : List ℕ → ℕ → List ℕ → ℕ
with_next t x b = overlap (t ++ (x ∷ [])) b

-- the right one, what is held and x; one that starts over where the next band does not follow; one that forgets b where it
-- was held whole; one that keeps it
abbrev fall_on : List ℕ → ℕ → ℕ → ℕ
fall_on b m x = with_next (take m b) x b

abbrev start_over : List ℕ → ℕ → ℕ → ℕ
start_over b m x = pick (eqb (get_or b m 0) x) (suc m) (with_next [] x b)

abbrev forget_whole : List ℕ → ℕ → ℕ → ℕ
forget_whole b m x = pick (eqb m (length b)) (with_next [] x b) (with_next (take m b) x b)

abbrev keep_whole : List ℕ → ℕ → ℕ → ℕ
keep_whole b m x = pick (eqb m (length b)) m (with_next (take m b) x b)

abbrev passes : (List ℕ → ℕ → ℕ → ℕ) → List ℕ → List ℕ → ℕ → ℕ
passes step a b i = pass_by step b 0 (take i a)

pub fall_on_is_ours : (a b : List ℕ) (i : ℕ) → passes fall_on a b i ≡ held_after a b i
fall_on_is_ours a b i = from (take i a) [] 0 (held_none a b)
  where
    from : (t s : List ℕ) (m : ℕ) → Longest s b m → pass_by fall_on b m t ≡ overlap (s ++ t) b
    from [] s m h = rw append-nil (longest_only s b m h)
    from (x ∷ t) s m h =
        let n : Longest (s ++ (x ∷ [])) b (fall_on b m x) = advances_so m x (overlaps_ours (take m b ++ (x ∷ [])) b) s h in
        from t (s ++ (x ∷ [])) (fall_on b m x) n ∙ ap (λ (y : List ℕ). overlap y b) (append_assoc s (x ∷ []) t)

pub not_start_over : Holds (passes start_over) → ⊥
not_start_over h =
    let e : ◌≡◌ {A = ℕ} 0 3 = holds_only (passes start_over) h (text "AAAB") (text "AAB") 4 (omega arith) in
    omega arith

pub not_forget_whole : Holds (passes forget_whole) → ⊥
not_forget_whole h =
    let e : ◌≡◌ {A = ℕ} 1 2 = holds_only (passes forget_whole) h (text "AAA") (text "AA") 3 (omega arith) in
    omega arith

pub not_keep_whole : Holds (passes keep_whole) → ⊥
not_keep_whole h =
    let e : ◌≡◌ {A = ℕ} 1 0 = holds_only (passes keep_whole) h (text "AB") (text "A") 2 (omega arith) in
    omega arith

-- Overlaps: all of b where a holds it, as document 000 has it; document 01 asks for an ending of a
abbrev whole_where_held : List ℕ → List ℕ → ℕ
whole_where_held a b = pick (stands_in b a) (length b) (overlap a b)

pub not_whole_where_held : Overlaps whole_where_held → ⊥
not_whole_where_held h =
    let e : ◌≡◌ {A = ℕ} 1 0 = overlaps_only whole_where_held h (text "AB") (text "A") in
    omega arith
