-- The place, by one pass for both ways: at each start the bands that are alike, and those of the word turned that end there.
use mathlib.Core.Path.{◌≡◌, sym, subst, ◌∙◌}
use mathlib.Core.Logic.{inl, inr}
use mathlib.Core.Bool.{true, false}
use mathlib.Core.List.{List}
use Prim.Native.Nat.{ℕ, ◌+◌, ◌-◌, ◌≤◌, ◌<◌, max}
use native.Mathlib.Omega.{arith}
use lib.ListN.{length, take, drop, get_or, length-drop}
use lib.Seq.{take_all}
use Rattle.words.specs.Decides.{Decides}
use Rattle.words.specs.Stand.{StandsAt, StandsHere, begins}
use Rattle.words.specs.Falling.{FallBack, Advances}
use Rattle.words.specs.Turn.{Turning}
use Rattle.words.specs.Place.{given_at, turned_at, either_at, nowhere, FirstStart}
use Rattle.words.specs.Place.{IsPlace, is_given, is_turned, is_either, is_nowhere}
use Rattle.words.proofs.Deciding.{holds, fails}
use Rattle.words.proofs.Placing.{start_within, is_standing_at, stands_as, no_tie}
use Rattle.words.proofs.Falling.{advances_one}
use Rattle.words.proofs.Starting.{end_within, Open, open_in, open_whole, open_to_come, open_more, open_match}
use Rattle.words.proofs.Starting.{open_next, open_fall}
use Rattle.lists.specs.Runs.{total}
use Rattle.windows.specs.Windows.{Skipped}
use Rattle.windows.proofs.Skipping.{Both, both_at, both_skip}

-- The search from the start k on: at the start i the first j bands are alike, m bands turned end there.
pub record Seeking (turn : List ℕ → List ℕ) (c s : List ℕ) (k p i j m : ℕ) : Type 0 where
  pub both : Both turn c s k p (i + j) j m
  pub given_from : k ≤ i
  pub turned_from : k + m ≤ i + j

module _ {turn : List ℕ → List ℕ} {c s : List ℕ} (as_long : length (turn c) ≡ length c) {k : ℕ} where
  pub seeking_at : {p : ℕ} → p ≤ length s → k ≤ p → ((h : ℕ) → k ≤ h → h < p → StandsHere turn c s h → ⊥)
      → Seeking turn c s k p p 0 0
  seeking_at l m n =
      record { both = both_at as_long (omega arith) (omega arith) n; given_from = m; turned_from = omega arith }

  pub seeking_none : k ≤ length s → Seeking turn c s k k k 0 0
  seeking_none l = seeking_at l (omega arith) (λ h a b. absurd (omega arith))

  module _ {p i j m : ℕ} (q : Seeking turn c s k p i j m) where
    pub seeking_in : (m ≤ length c) × (m ≤ i + j) × (i + j ≤ length s)
    seeking_in =
        let o = q.both.turned in
        (omega (arith, as_long, (open_in o).0), (open_in o).1, o.within)

    pub seeking_skip : {w r y z : ℕ} → r ≡ max j m → y ≡ total c → z ≡ total (turn c)
        → Skipped s (length c) y z p (i + j - r) w → Seeking turn c s k w i j m
    seeking_skip f u v g =
        record { both = both_skip as_long q.both f u v g; given_from = q.given_from; turned_from = q.turned_from }

    -- on to a start behind all bands compared
    pub seeking_jump : p ≤ length s → i + j ≤ p → Seeking turn c s k p p 0 0
    seeking_jump l m = seeking_at l (omega (arith, q.given_from)) q.both.clear

    pub seeking_given : length c ≤ j → FirstStart turn k c s i
    seeking_given l =
        let o = q.both.given in
        let w = open_whole o (omega (arith, (open_in o).0)) in
        let e : i + j - length c ≡ i = omega (arith, (open_in o).0) in
        record {
          from_on = q.given_from;
          stands = λ f. inl (subst (StandsAt c s) e w.1);
          none_before = λ h a b. record {
            not_given = o.none_before h a (omega arith);
            not_turned = q.both.turned.none_before h a (omega (arith, seeking_in.0));
          };
        }

    module _ (l : j < length c) where
      pub seeking_turned : m ≡ length c → FirstStart turn k c s (i + j - length c)
      seeking_turned f =
          let w = open_whole q.both.turned (f ∙ sym as_long) in
          record {
            from_on = omega (arith, q.turned_from);
            stands = λ d. inr (rw as_long at w.1);
            none_before = λ h a b. record {
              not_given = q.both.given.none_before h a (omega arith);
              not_turned = q.both.turned.none_before h a (omega arith);
            };
          }

      module _ (n : m ≡ length c → ⊥) where
        pub seeking_nowhere : i + j ≡ length s → FirstStart turn k c s (length s + 1)
        seeking_nowhere e =
            record {
              from_on = omega (arith, q.given_from);
              stands = λ d. absurd (omega arith);
              none_before = λ h a b. record {
                not_given = λ x. q.both.given.none_before h a (omega (arith, end_within x)) x;
                not_turned = λ x. omega (arith, as_long, end_within x, to_come h a x);
              };
            }
          where
            to_come : (h : ℕ) → k ≤ h → StandsAt (turn c) s h → i + j < h + length (turn c)
            to_come = open_to_come q.both.turned (λ f. n (f ∙ as_long))

        module _ (b : i + j < length s) where
          module _ {x r : ℕ} (f : get_or s (i + j) 0 ≡ x) (a : Advances (turn c) m x r) where
            turned_on : Open (turn c) s k (i + j + 1) r
            turned_on = open_more q.both.turned b f a (open_to_come q.both.turned (λ z. n (z ∙ as_long)))

            few : r ≤ m + 1
            few = advances_one (open_in q.both.turned).0 a

            pub seeking_more : get_or c j 0 ≡ x → Seeking turn c s k p i (j + 1) r
            seeking_more d =
                let e : i + j + 1 ≡ i + (j + 1) = omega arith in
                record {
                  both = record {
                    given = subst (λ (z : ℕ). Open c s k z (j + 1)) e (open_match q.both.given b l (d ∙ sym f));
                    turned = subst (λ (z : ℕ). Open (turn c) s k z r) e turned_on;
                    clear = q.both.clear;
                  };
                  given_from = q.given_from;
                  turned_from = omega (arith, q.turned_from, few);
                }

            pub seeking_next : j ≡ 0 → (get_or c j 0 ≡ x → ⊥) → Seeking turn c s k p (i + 1) j r
            seeking_next z d =
                let e : i + j + 1 ≡ i + 1 + j = omega arith in
                let o : Open c s k (i + j + 1) 0 = open_next q.both.given b l (λ y. d (y ∙ f)) z in
                record {
                  both = record {
                    given = subst (λ (y : ℕ). Open c s k y j) e (subst (Open c s k (i + j + 1)) (sym z) o);
                    turned = subst (λ (y : ℕ). Open (turn c) s k y r) e turned_on;
                    clear = q.both.clear;
                  };
                  given_from = omega (arith, q.given_from);
                  turned_from = omega (arith, q.turned_from, few);
                }

          -- the start moves on by what the fall-back leaves
          pub seeking_fall : {f : ℕ} → (get_or c j 0 ≡ get_or s (i + j) 0 → ⊥) → FallBack c j f
              → Seeking turn c s k p (i + (j - f)) f m
          seeking_fall {f} d g =
              let e : i + j ≡ i + (j - f) + f = omega (arith, g.shorter) in
              record {
                both = record {
                  given = subst (λ (y : ℕ). Open c s k y f) e (open_fall q.both.given b l d g);
                  turned = subst (λ (y : ℕ). Open (turn c) s k y m) e q.both.turned;
                  clear = q.both.clear;
                };
                given_from = omega (arith, q.given_from);
                turned_from = omega (arith, q.turned_from, g.shorter);
              }

-- The answer: where the search ends, the word stands as given, turned or both ways.
module _ {turn : List ℕ → List ℕ} {c s : List ℕ} {k : ℕ} where
  pub place_behind : length (turn c) ≡ length c → length s < k + length c → IsPlace turn k c s nowhere
  place_behind as_long l =
      is_nowhere (λ j m. record {
        not_given = λ x. omega (arith, end_within x);
        not_turned = λ x. omega (arith, as_long, end_within x);
      })

  module _ {i : ℕ} (f : FirstStart turn k c s i) where
    pub place_nowhere : length s < i → IsPlace turn k c s nowhere
    place_nowhere l =
        is_nowhere (λ j m. record {
          not_given = λ x. (f.none_before j m (omega (arith, start_within x))).not_given x;
          not_turned = λ x. (f.none_before j m (omega (arith, start_within x))).not_turned x;
        })

    module _ (l : i ≤ length s) where
      abbrev left : List ℕ
      left = take (length s - i) (drop i s)

      test : (w : List ℕ) → Decides (StandsAt w s i) (begins w left)
      test w = is_standing_at w l (sym (take_all (length s - i) (drop i s) (omega (arith, length-drop i s))))

      module _ (e : begins c left ≡ true) where
        pub place_either : Turning turn → begins (turn c) left ≡ true → IsPlace turn k c s (either_at i)
        place_either t g =
            let h = holds (test c) e in
            is_either {i = i} f.from_on (no_tie t c s i h (holds (test (turn c)) g)) h f.none_before

        pub place_given : begins (turn c) left ≡ false → IsPlace turn k c s (given_at i)
        place_given g =
            let h = holds (test c) e in
            is_given {i = i} f.from_on (λ a. fails (test (turn c)) g (stands_as a h)) h f.none_before

      pub place_turned : begins c left ≡ false → IsPlace turn k c s (turned_at i)
      place_turned e =
          let h = other (f.stands l) in
          is_turned {i = i} f.from_on (λ a. fails (test c) e (stands_as (sym a) h)) h f.none_before
        where
          other : StandsHere turn c s i → StandsAt (turn c) s i
          other (inl x) = absurd (fails (test c) e x)
          other (inr x) = x
