-- What the rows show. A code stands nowhere before its place, so the starts from there on are all at which it stands; there
-- are no more of them than the ribbon has bands. Code after code is shown at the front of a row.
use mathlib.Core.Path.{◌≡◌, refl, sym, ap, subst, ◌∙◌}
use mathlib.Core.Bool.{true}
use mathlib.Core.List.{List, [], ◌∷◌}
use Prim.Native.Nat.{ℕ, ◌+◌, ◌≤◌, ◌<◌}
use native.Mathlib.Nat.{add-zero}
use native.Mathlib.Omega.{arith}
use native.Mathlib.Decide.{ℕ_discrete}
use lib.ListN.{length, drop, get_or, set, length-set, length-drop, get_or-map}
use lib.Seq.{drop-drop, get_or-drop, get_or-set_same, get_or-set_other}
use Rattle.words.specs.Turn.{turned}
use Rattle.words.specs.Place.{IsPlace, is_given, is_turned, is_either, place_of}
use Rattle.words.specs.Count.{count_of}
use Rattle.words.proofs.Turning.{turning}
use Rattle.words.proofs.Standing.{stands_length}
use Rattle.words.proofs.Placing.{finds_ours, start_within}
use Rattle.words.proofs.Counting.{counts_ours, count_most, count_behind}
use Rattle.words.proofs.Deciding.{holds}
use Rattle.words.proofs.Lists.{each_in}
use Rattle.lists.specs.Runs.{codes_in}
use Rattle.lists.specs.Fit.{list_ok_lem}
use Rattle.lists.specs.Rules.{CodeRule, FitList}
use Rattle.lists.proofs.Runs.{codes_count}
use Rattle.lists.proofs.Rules.{is_fit_list}
use Rattle.greedy.specs.Dropping.{code_at}
use Rattle.greedy.proofs.Keeping.{code_in_lem}
use Rattle.places.specs.Calls.{way_at}
use Rattle.places.specs.declared.Place.{Place}
use Rattle.finding.specs.Answers.{start_of}
use Rattle.finding.specs.declared.Way.{Way}
use Rattle.finding.specs.declared.Way.TheVariants.{Given, Turned, Either}
use Rattle.places.proofs.Finding.{nth_place, place_is}
use Rattle.sheet_rows.specs.Shows.{unset, nth_shown, ShowsCode, ShowsCodes, HasPlace, AllPlaced}
use Rattle.sheet_rows.specs.declared.pieces.Shown.{Shown}

module _ (c ribbon : List ℕ) where
  -- no more starts than bands
  pub count_few : 1 ≤ length c → (k : ℕ) → count_of turned c (drop k ribbon) ≤ length ribbon
  count_few h k = omega (arith, count_most (turning.as_long c) h (counts_ours turned c (drop k ribbon)), length-drop k ribbon)

  lies_on : (w : Way ℕ) → IsPlace turned 0 c ribbon (way_at w) → start_of w + length c ≤ length ribbon
  lies_on (Given i) (is_given l d h n) = omega (arith, h.start, stands_length h.stands)
  lies_on (Turned i) (is_turned l d h n) = omega (arith, h.start, stands_length h.stands, turning.as_long c)
  lies_on (Either i) (is_either l a h n) = omega (arith, h.start, stands_length h.stands)

  all_behind : (w : Way ℕ) → IsPlace turned 0 c ribbon (way_at w)
      → count_of turned c ribbon ≡ count_of turned c (drop (start_of w) ribbon)
  all_behind (Given i) (is_given l d h n) = count_behind turned c ribbon i (start_within h) (λ j m. n j (omega arith) m)
  all_behind (Turned i) (is_turned l d h n) = count_behind turned c ribbon i (start_within h) (λ j m. n j (omega arith) m)
  all_behind (Either i) (is_either l a h n) = count_behind turned c ribbon i (start_within h) (λ j m. n j (omega arith) m)

  module _ (w : Way ℕ) (e : way_at w ≡ place_of turned 0 c ribbon) where
    is_place : IsPlace turned 0 c ribbon (way_at w)
    is_place = subst (IsPlace turned 0 c ribbon) (sym e) (finds_ours turned 0 c ribbon)

    -- a place lies on the ribbon
    pub lies : start_of w + length c ≤ length ribbon
    lies = lies_on w is_place

    pub counted_behind : {n k : ℕ} → k ≡ start_of w → n ≡ count_of turned c (drop k ribbon) → ShowsCode c ribbon (record { way = w; places = n })
    counted_behind s p =
        record { place = e; count = p ∙ ap (λ (k : ℕ). count_of turned c (drop k ribbon)) s ∙ sym (all_behind w is_place) }

-- a code of a fit list is as long as told
pub code_long : {run ls : List ℕ} → FitList run ls → (i : ℕ) → length (code_at (codes_in run ls) i) ≡ get_or ls i 0
code_long {run} {ls} F i =
    sym (get_or-map length (codes_in run ls) i []) ∙ ap (λ (l : List ℕ). get_or l i 0) F.as_long

-- The first i codes are shown, and the others are left.
pub record Showing (run ls ribbon : List ℕ) (all : List Shown) (i : ℕ) (left : List (List ℕ)) : Type 0 where
  pub bound : i + length left ≡ length ls
  pub are_left : left ≡ drop i (codes_in run ls)
  pub room : length all ≡ 128
  pub each : (k : ℕ) → k < i → ShowsCode (code_at (codes_in run ls) k) ribbon (nth_shown all k)

pub showing_none : (run ls ribbon : List ℕ) (all : List Shown) → length all ≡ 128 → Showing run ls ribbon all 0 (codes_in run ls)
showing_none run ls ribbon all e =
    record { bound = omega (arith, codes_count run ls); are_left = refl; room = e; each = λ k l. absurd (omega arith) }

module _ {run ls ribbon : List ℕ} {all : List Shown} {i : ℕ} {left : List (List ℕ)} (f : Showing run ls ribbon all i left) where
  -- the next code
  module _ {c : List ℕ} {more : List (List ℕ)} (s' : left ≡ c ∷ more) where
    listed : i < length ls
    listed = omega (arith, f.bound, ap length s')

    here : drop i (codes_in run ls) ≡ c ∷ more
    here = sym f.are_left ∙ s'

    code_is : c ≡ code_at (codes_in run ls) i
    code_is =
        let cs = codes_in run ls in
        sym (ap (λ (ds : List (List ℕ)). get_or ds 0 []) here) ∙ get_or-drop i cs 0 [] ∙ ap (λ (k : ℕ). code_at cs k) (add-zero i)

    module _ (ok : list_ok_lem run ls ≡ true) where
      fit : FitList run ls
      fit = holds (is_fit_list run ls) ok

      pub next_few : i < 128
      next_few = omega (arith, fit.at_most, listed)

      pub next_placed : {records : List Place} → AllPlaced run ls ribbon records → HasPlace c ribbon (nth_place records i).way
      next_placed p =
          let cs = codes_in run ls in
          let m : i < length cs = omega (arith, codes_count run ls, listed) in
          let r : CodeRule c = rw code_is (each_in CodeRule cs (code_at cs i) fit.coded (code_in_lem cs i m)) in
          record {
            some = r.0;
            few = r.1;
            short = p.short;
            place = place_is p.placed i listed ∙ ap (λ (d : List ℕ). place_of turned 0 d ribbon) (sym code_is);
          }

      pub showing_next : {s : Shown} → ShowsCode c ribbon s → Showing run ls ribbon (set all i s) (i + 1) more
      showing_next {s} x =
          record {
            bound = omega (arith, f.bound, ap length s');
            are_left = sym (ap (drop 1) here) ∙ drop-drop 1 i (codes_in run ls);
            room = length-set all i s ∙ f.room;
            each = λ k l. go k l (ℕ_discrete k i);
          }
        where
          go : (k : ℕ) → k < i + 1 → Dec (k ≡ i) → ShowsCode (code_at (codes_in run ls) k) ribbon (nth_shown (set all i s) k)
          go k l (yes e) =
              let b : i < length all = omega (arith, f.room, next_few) in
              rw (e, get_or-set_same all i s unset b, ← code_is) x
          go k l (no d) = rw (get_or-set_other all i k s unset d) (f.each k (omega arith))

  pub showing_all : left ≡ [] → ShowsCodes run ls ribbon all
  showing_all e = record { room = f.room; each = λ k l. f.each k (omega (arith, f.bound, ap length e)) }
