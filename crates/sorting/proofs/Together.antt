-- The faces that begin with a word are one range of the sorted ones: e of them, from place p on.
use mathlib.Core.Path.{◌≡◌, ap, ◌∙◌}
use mathlib.Core.Logic.{◌≢◌}
use mathlib.Core.List.{List}
use Prim.Native.Nat.{ℕ, zero, suc, ◌+◌, ◌-◌, ◌*◌, ◌≤◌, ◌<◌}
use native.Mathlib.Omega.{arith}
use native.Mathlib.Decide.{ℕ_discrete, dec_le}
use lib.ListN.{length, take, drop, get_or, length-drop}
use lib.Seq.{length-take-le, get_or-drop, take_all}
use Rattle.std.proofs.Common.{get_or-take}
use Rattle.words.specs.Turn.{turned}
use Rattle.greedy.specs.Reading.{face_of}
use Rattle.sorting.specs.Sorted.{side_of, side_at, Rising, SortedFaces, AllSorted, Begin, Narrowed}

pub all_sorted : {ks : List (List ℕ)} {sorted : List ℕ} → SortedFaces ks sorted → AllSorted ks sorted
all_sorted t =
    record {
      room = t.room;
      within = t.within;
      each = λ f l none. let x = t.each f l in none x.0 x.1 x.2;
      rising = t.rising;
    }

-- A number that is not missing among the first n faces has a place there: equality of numbers is decided place by place.
place_of : (faces : List ℕ) (f n : ℕ) → (((i : ℕ) → i < n → get_or faces i 0 ≢ f) → ⊥) → (i : ℕ) × (i < n) × (get_or faces i 0 ≡ f)
place_of faces f zero some = absurd (some (λ i l. absurd (omega arith)))
place_of faces f (suc n) some = go (ℕ_discrete (get_or faces n 0) f) (place_of faces f n)
  where
    go : Dec (get_or faces n 0 ≡ f)
        → ((((i : ℕ) → i < n → get_or faces i 0 ≢ f) → ⊥) → (i : ℕ) × (i < n) × (get_or faces i 0 ≡ f))
        → (i : ℕ) × (i < suc n) × (get_or faces i 0 ≡ f)
    go (yes e) earlier = (n, omega arith, e)
    go (no d) earlier =
        let x = earlier (λ none. some (λ i l. at i l none (ℕ_discrete i n))) in (x.0, omega (arith, x.1), x.2)
      where
        at : (i : ℕ) → i < suc n → ((j : ℕ) → j < n → get_or faces j 0 ≢ f) → Dec (i ≡ n) → get_or faces i 0 ≢ f
        at i l none (yes q) = rw q d
        at i l none (no q) = none i (omega arith)

-- the other way round: what is told of all faces gives each its place
pub sorted_faces : {ks : List (List ℕ)} {sorted : List ℕ} → AllSorted ks sorted → SortedFaces ks sorted
sorted_faces {ks} {sorted} t =
    record {
      room = t.room;
      within = t.within;
      each = λ f l. place_of sorted f (2 * length ks) (t.each f l);
      rising = t.rising;
    }

-- what is behind place n
pub tail_is : (n : ℕ) (faces : List ℕ) → take (length faces - n) (drop n faces) ≡ drop n faces
tail_is n faces = take_all (length faces - n) (drop n faces) (omega (arith, length-drop n faces))

-- the sorted faces rise, and so do those from place p on
pub rising_all : {ks : List (List ℕ)} (sorted : List ℕ) → AllSorted ks sorted → Rising ks (take (2 * length ks) sorted)
rising_all {ks} sorted t =
    let m = 2 * length ks in
    let size = length-take-le m sorted t.room in
    record {
      within = λ i l. rw (get_or-take m sorted i 0 (omega (arith, size))) (t.within i (omega (arith, size)));
      rising = λ i j l g.
          rw (get_or-take m sorted i 0 (omega (arith, size)), get_or-take m sorted j 0 (omega (arith, size)))
          (t.rising i j l (omega (arith, size)));
    }

pub rising_behind : {ks : List (List ℕ)} (faces : List ℕ) (p : ℕ) → Rising ks faces → Rising ks (drop p faces)
rising_behind faces p t =
    record {
      within = λ i l. rw (get_or-drop p faces i 0) (t.within (p + i) (omega (arith, length-drop p faces)));
      rising = λ i j l g.
          rw (get_or-drop p faces i 0, get_or-drop p faces j 0)
          (t.rising (p + i) (p + j) (omega arith) (omega (arith, length-drop p faces)));
    }

module _ (ks : List (List ℕ)) (sorted x : List ℕ) (p e : ℕ) (t : AllSorted ks sorted) where
  abbrev all : List ℕ
  all = take (2 * length ks) sorted

  abbrev behind : List ℕ
  behind = drop p all

  abbrev range : List ℕ
  range = take e behind

  size : length all ≡ 2 * length ks
  size = length-take-le (2 * length ks) sorted t.room

  in_all : (i : ℕ) → i < 2 * length ks → get_or all i 0 ≡ get_or sorted i 0
  in_all i l = get_or-take (2 * length ks) sorted i 0 l

  module _ (l : Narrowed (side_at ks all x) 1 (length all) p p) (h : Narrowed (side_at ks behind x) 2 (length behind) e e) where
    range_size : length range ≡ e
    range_size = length-take-le e behind h.bound

    there : (j : ℕ) → j < e → p + j < 2 * length ks
    there j k = omega (arith, h.bound, length-drop p all, size)

    at : (j : ℕ) → j < e → get_or range j 0 ≡ get_or sorted (p + j) 0
    at j k = get_or-take e behind j 0 k ∙ get_or-drop p all j 0 ∙ in_all (p + j) (there j k)

    side_is : {a b : ℕ} → a ≡ b → side_of (face_of turned ks a) x ≡ side_of (face_of turned ks b) x
    side_is e = ap (λ (f : ℕ). side_of (face_of turned ks f) x) e

    one : (j : ℕ) → j < e → side_at ks range x j ≡ 1
    one j k =
        omega (
          arith,
          l.above (p + j) (omega arith) (omega (arith, there j k, size)),
          h.below j k,
          side_is (get_or-drop p all j 0),
          side_is (get_or-take e behind j 0 k),
        )

    pub begin : Begin ks x range
    begin =
        record {
          within = λ j k.
              let m : j < e = omega (arith, range_size) in
              omega (arith, at j m, t.within (p + j) (there j m));
          one = λ j k. one j (omega (arith, range_size));
          each = λ f k s none.
              let x = (sorted_faces t).each f k in found f s none x.0 x.1 x.2 (dec_le p x.0) (dec_le e (x.0 - p));
        }
      where
        found : (f : ℕ) → side_of (face_of turned ks f) x ≡ 1 → ((i : ℕ) → i < length range → get_or range i 0 ≢ f)
            → (i : ℕ) → i < 2 * length ks → get_or sorted i 0 ≡ f → Dec (p ≤ i) → Dec (e ≤ i - p) → ⊥
        found f s none i m is (no g) d = omega (arith, l.below i (omega arith), side_is (in_all i m ∙ is), s)
        found f s none i m is (yes g) (yes d) =
            let k : p + (i - p) ≡ i = omega arith in
            omega (
              arith,
              h.above (i - p) d (omega (arith, length-drop p all, size)),
              side_is (get_or-drop p all (i - p) 0 ∙ ap (λ (j : ℕ). get_or all j 0) k ∙ in_all i m ∙ is),
              s,
            )
        found f s none i m is (yes g) (no d) =
            let k : p + (i - p) ≡ i = omega arith in
            none (i - p) (omega (arith, range_size)) (at (i - p) (omega arith) ∙ ap (λ (j : ℕ). get_or sorted j 0) k ∙ is)
