-- Wrong ways to drop codes and to read the ribbon, each written out and caught by its claim on a named list.
-- A claim has one outcome, so an impostor is caught where what it gives is not what ours gives.
use mathlib.Core.Path.{◌≡◌, refl, ap}
use mathlib.Core.Logic.{inl}
use mathlib.Core.Bool.{Bool, false, ◌&&◌, not, ◌||◌}
use mathlib.Core.List.{List, [], ◌∷◌, ◌++◌, map}
use Prim.Native.Nat.{ℕ, suc, ◌+◌, ◌≤◌}
use native.Mathlib.Omega.{arith}
use lib.Dec.{eqb, leb}
use lib.ListN.{length}
use borrow.Author.Tests.{eqb-false}
use Rattle.words.specs.Tests.{same}
use Rattle.words.specs.Turn.{turned}
use Rattle.words.specs.Stand.{StandsSomeWay, stands_in, some_way}
use Rattle.words.specs.Texts.{text}
use Rattle.words.proofs.Tests.{differ}
use Rattle.words.proofs.Standing.{is_some_way}
use Rattle.lists.specs.Runs.{flat, total, lengths}
use Rattle.joins.specs.Rules.{Chosen}
use Rattle.joins.proofs.Pieces.{flip}
use Rattle.greedy.specs.Dropping.{code_at, Keeper, some_below, without, outranks, kept}
use Rattle.greedy.specs.Reading.{read_piece}
use Rattle.greedy.specs.Rules.{Lays, AllStand, AtMostTwice}
use Rattle.greedy.specs.Layout.{order_for, ribbon_for, saved_by}
use Rattle.greedy.proofs.Dropping.{keeper_ours, keeper_only}
use Rattle.greedy.proofs.Claims.{lays_only}

-- Dropping, where the test of code i for code j is open.
abbrev Test : Type 0
Test = List (List ℕ) → ℕ → ℕ → Bool

abbrev keep_by : Test → List (List ℕ) → List (List ℕ)
keep_by drops cs = map (code_at cs) (without (λ i. some_below (length cs) (drops cs i)) 0 (length cs))

-- code i stands some way in code j
abbrev inside : Test
inside cs i j = some_way turned (code_at cs i) (code_at cs j)

-- the right one; the last of equal codes kept; both of a turned pair dropped; compared one way only; nothing dropped
abbrev right : Test
right cs i j = outranks cs j i && inside cs i j

abbrev last_kept : Test
last_kept cs i j =
    (not (leb (length (code_at cs j)) (length (code_at cs i))) || outranks cs i j) && inside cs i j

abbrev both_dropped : Test
both_dropped cs i j =
    (not (eqb i j) && leb (length (code_at cs i)) (length (code_at cs j))) && inside cs i j

abbrev one_way : Test
one_way cs i j = outranks cs j i && stands_in (code_at cs i) (code_at cs j)

abbrev none_dropped : Test
none_dropped cs i j = false

pub right_is_ours : (cs : List (List ℕ)) → keep_by right cs ≡ kept turned cs
right_is_ours cs = refl

wrong_kept : (keep : List (List ℕ) → List (List ℕ)) (cs : List (List ℕ))
    → same (flat (keep cs)) (flat (kept turned cs)) ≡ false → Keeper (StandsSomeWay turned) keep → ⊥
wrong_kept keep cs n h = differ n (ap flat (keeper_only (is_some_way turned) keep h cs))

-- AB, CD, AB: AB, CD are kept, and not CD, AB
pub not_last_kept : Keeper (StandsSomeWay turned) (keep_by last_kept) → ⊥
unfolding turned
not_last_kept = wrong_kept _ (text "AB" ∷ text "CD" ∷ text "AB" ∷ []) refl

-- AB, BA: AB is kept, and neither none nor both
abbrev turned_pair : List (List ℕ)
turned_pair = text "AB" ∷ text "BA" ∷ []

pub not_both_dropped : Keeper (StandsSomeWay turned) (keep_by both_dropped) → ⊥
unfolding turned
not_both_dropped = wrong_kept _ turned_pair refl

pub not_one_way : Keeper (StandsSomeWay turned) (keep_by one_way) → ⊥
unfolding turned
not_one_way = wrong_kept _ turned_pair refl

pub not_none_dropped : Keeper (StandsSomeWay turned) (keep_by none_dropped) → ⊥
unfolding turned
not_none_dropped = wrong_kept _ turned_pair refl

-- Reading. A layer gives a ribbon and a saving for each list.
abbrev Layer : (List (List ℕ) → List ℕ) → (List (List ℕ) → ℕ) → Type 0
Layer lay saved = (cs : List (List ℕ)) → Lays Chosen turned cs (lay cs) (saved cs)

module _ (lay : List (List ℕ) → List ℕ) (saved : List (List ℕ) → ℕ) (cs : List (List ℕ)) where
  wrong_ribbon : same (lay cs) (ribbon_for turned cs) ≡ false → Layer lay saved → ⊥
  wrong_ribbon d h = differ d (lays_only turned (h cs)).0

  wrong_saving : eqb (saved cs) (saved_by turned cs) ≡ false → Layer lay saved → ⊥
  wrong_saving d h = eqb-false (saved cs) (saved_by turned cs) d (lays_only turned (h cs)).1

-- the mirrored piece read; all kept codes end to end; the first two by their overlap, the rest end to end; one stock
-- ribbon; an invented saving
abbrev mirrored : List (List ℕ) → List ℕ
mirrored cs = let ks = kept turned cs in read_piece turned ks (flip (order_for turned ks))

abbrev end_to_end : List (List ℕ) → List ℕ
end_to_end cs = flat (kept turned cs)

abbrev pair_only : List ℕ → List (List ℕ) → List ℕ
pair_only (f ∷ (g ∷ p)) ks = read_piece turned ks (f ∷ (g ∷ [])) ++ flat (map (λ (h : ℕ). read_piece turned ks (h ∷ [])) p)
pair_only (f ∷ []) ks = read_piece turned ks (f ∷ [])
pair_only [] ks = []

abbrev best_pair : List (List ℕ) → List ℕ
best_pair cs = let ks = kept turned cs in pair_only (order_for turned ks) ks

abbrev stock : List (List ℕ) → List ℕ
stock cs = text "ABC"

abbrev nothing : List (List ℕ) → List ℕ
nothing cs = []

-- AB, CD
abbrev apart : List (List ℕ)
apart = text "AB" ∷ text "CD" ∷ []

-- ABB, BBB, BBC
abbrev overlapping : List (List ℕ)
overlapping = text "ABB" ∷ text "BBB" ∷ text "BBC" ∷ []

pub not_mirrored : Layer mirrored (saved_by turned) → ⊥
unfolding turned
not_mirrored = wrong_ribbon _ _ apart refl

pub not_end_to_end : Layer end_to_end (λ cs. 0) → ⊥
unfolding turned
not_end_to_end = wrong_ribbon _ _ overlapping refl

pub not_best_pair : (saved : List (List ℕ) → ℕ) → Layer best_pair saved → ⊥
unfolding turned
not_best_pair saved = wrong_ribbon _ _ overlapping refl

pub not_stock : (saved : List (List ℕ) → ℕ) → Layer stock saved → ⊥
unfolding turned
not_stock saved = wrong_ribbon _ _ apart refl

pub not_nothing : (saved : List (List ℕ) → ℕ) → Layer nothing saved → ⊥
unfolding turned
not_nothing saved = wrong_ribbon _ _ apart refl

pub not_invented : Layer (ribbon_for turned) (λ cs. suc (saved_by turned cs)) → ⊥
unfolding turned
not_invented = wrong_saving _ _ apart refl

-- The sum catches it too: bands and saved no longer add up to the bands of the kept codes.
pub not-invented-by-the-sum :
    ((cs : List (List ℕ)) → length (ribbon_for turned cs) + suc (saved_by turned cs) ≡ total (lengths (kept turned cs))) → ⊥
unfolding turned
not-invented-by-the-sum h =
    let e : 4 + 1 ≡ 4 = h apart in
    omega arith

-- Demand 3 catches the end-to-end layout too: it saves 0, and ABBBC is a rival of 5 bands for 9.
abbrev row : List ℕ
row = text "ABBBC"

rival : AllStand turned overlapping row
rival = (
  inl (record { before = []; after = text "BC"; parts = refl }),
  (
    inl (record { before = text "A"; after = text "C"; parts = refl }),
    (inl (record { before = text "AB"; after = []; parts = refl }), tt),
  ),
)

pub not_twice : AtMostTwice turned overlapping 0 → ⊥
unfolding turned
not_twice h =
    let k : 9 ≤ 5 = h (kept turned overlapping) _ (keeper_ours (is_some_way turned) overlapping) rival in
    omega arith
