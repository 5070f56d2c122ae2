-- How often a word stands, by the matches of both ways that are open at each band: a start counts where one of them is whole,
-- and from the next start on the count goes on.
use mathlib.Core.Path.{◌≡◌, refl, sym, subst, ◌∙◌}
use mathlib.Core.Logic.{◌⊎◌, inl, inr}
use mathlib.Core.Bool.{Bool, ◌||◌}
use mathlib.Core.List.{List, []}
use Prim.Native.Nat.{ℕ, suc, ◌+◌, ◌-◌, ◌≤◌, ◌<◌, max}
use native.Mathlib.Omega.{arith}
use lib.Dec.{eqb}
use Rattle.std.specs.Int.{from_bool}
use lib.ListN.{length, get_or}
use Rattle.words.specs.Decides.{Decides, yes, no}
use Rattle.words.specs.Stand.{StandsHere}
use Rattle.words.specs.Falling.{Advances}
use Rattle.words.specs.Lists.{In}
use Rattle.words.specs.Count.{IsCount, count_of}
use Rattle.words.proofs.Deciding.{decides_or, is_eq, is_lt}
use Rattle.words.proofs.Starting.{end_within, Open, open_in, open_later, open_whole, open_to_come, open_more}
use Rattle.words.proofs.Counting.{Counted, counted_none, counted_next, counted_all, count_is}
use Rattle.lists.specs.Runs.{total}
use Rattle.windows.specs.Windows.{Windowed, Skipped}
use Rattle.counting.specs.Moves.{Moved, on, stays}
use Rattle.windows.proofs.Skipping.{Both, both_at, both_skip}

-- After e bands n starts are counted, all those before k, and from there on the word has ended nowhere yet.
pub record Counting (turn : List ℕ → List ℕ) (c s : List ℕ) (p e g t n : ℕ) : Type 0 where
  pub k : ℕ
  pub before : k ≤ e + 1 - length c
  pub counted : Counted turn c s k n
  pub both : Both turn c s k p e g t
  pub to_come : (h : ℕ) → k ≤ h → StandsHere turn c s h → e < h + length c
  pub few : n ≤ e

-- what a band counts for
abbrev pub whole : List ℕ → ℕ → ℕ → ℕ
whole c g t = from_bool (eqb g (length c) || eqb t (length c))

-- a word longer than the row stands nowhere
pub counting_short : (turn : List ℕ → List ℕ) (c s : List ℕ) → length (turn c) ≡ length c → length s < length c
    → 0 ≡ count_of turn c s
counting_short turn c s e l =
    count_is {turn = turn} (record { starts = []; in_order = tt; only = λ i x. absurd x; all = λ i x. no_room x; size = refl })
  where
    no_room : {i : ℕ} → StandsHere turn c s i → In i []
    no_room (inl x) = absurd (omega (arith, end_within x))
    no_room (inr x) = absurd (omega (arith, e, end_within x))

module _ {turn : List ℕ → List ℕ} {c s : List ℕ} (as_long : length (turn c) ≡ length c) (some : 0 < length c) where
  pub counting_none : Counting turn c s 0 0 0 0 0
  counting_none =
      record {
        k = 0;
        before = omega arith;
        counted = counted_none turn c s;
        both = both_at as_long (omega arith) (omega arith) (λ h a b. absurd (omega arith));
        to_come = λ h a x. omega arith;
        few = omega arith;
      }

  module _ {p e g t n : ℕ} (q : Counting turn c s p e g t n) where
    pub counting_in : (g ≤ length c) × (t ≤ length c) × (g ≤ e) × (t ≤ e) × (e ≤ length s)
    counting_in =
        let a = open_in q.both.given in
        let b = open_in q.both.turned in
        (a.0, omega (arith, as_long, b.0), a.1, b.1, q.both.given.within)

    counting_skip : {w r y z : ℕ} → r ≡ max g t → y ≡ total c → z ≡ total (turn c)
        → Skipped s (length c) y z p (e - r) w → Counting turn c s w e g t n
    counting_skip f u v l =
        record {
          k = q.k;
          before = q.before;
          counted = q.counted;
          both = both_skip as_long q.both f u v l;
          to_come = q.to_come;
          few = q.few;
        }

    -- on to a start behind all bands passed
    counting_jump : p ≤ length s → e ≤ p → Counting turn c s p p 0 0 n
    counting_jump l m =
        record {
          k = q.k;
          before = omega (arith, q.before);
          counted = q.counted;
          both = both_at as_long l (omega arith) q.both.clear;
          to_come = λ h a x. later h a x (is_lt h p);
          few = omega (arith, q.few);
        }
      where
        later : (h : ℕ) → q.k ≤ h → StandsHere turn c s h → {y : Bool} → Decides (h < p) y → p < h + length c
        later h a x (yes d) = absurd (q.both.clear h a d x)
        later h a x (no d) = omega arith

    counting_moved : {u v w : ℕ} → p < length s → e < length s → Moved p e g t u v w
        → (e ≤ u) × (u < length s) × Counting turn c s p u v w n
    counting_moved l b (on m) = (m, l, counting_jump (omega arith) m)
    counting_moved l b (stays m) = (omega arith, b, q)

    -- past the last band no start is left
    pub counting_all : length s ≤ e → IsCount turn c s n
    counting_all l = counted_all turn c s q.counted (λ j x. by j x (is_lt j q.k)) refl
      where
        ends : (j : ℕ) → StandsHere turn c s j → j + length c ≤ length s
        ends j (inl x) = end_within x
        ends j (inr x) = omega (arith, as_long, end_within x)

        by : (j : ℕ) → StandsHere turn c s j → {y : Bool} → Decides (j < q.k) y → j < q.k
        by j x (yes d) = d
        by j x (no d) = absurd (omega (arith, ends j x, q.to_come j (omega arith) x))

    -- one band further
    module _ {x u v : ℕ} (l : e < length s) (f : get_or s e 0 ≡ x) (a : Advances c g x u) (b : Advances (turn c) t x v) where
      given : Open c s q.k (e + 1) u
      given = open_more q.both.given l f a (λ h m y. q.to_come h m (inl y))

      turned : Open (turn c) s q.k (e + 1) v
      turned =
          open_more q.both.turned l f b (λ h m y. omega (arith, as_long, q.to_come h m (inr y)))

      here : (u ≡ length c) ⊎ (v ≡ length c) → (length c ≤ e + 1) × StandsHere turn c s (e + 1 - length c)
      here (inl z) = let w = open_whole given z in (w.0, inl w.1)
      here (inr z) =
          let w = open_whole turned (z ∙ sym as_long) in
          (omega (arith, as_long, w.0), inr (rw as_long at w.1))

      none_before : (h : ℕ) → q.k ≤ h → h < e + 1 - length c → StandsHere turn c s h → ⊥
      none_before h m i (inl y) = given.none_before h m (omega (arith, (open_in given).0)) y
      none_before h m i (inr y) = turned.none_before h m (omega (arith, as_long, (open_in turned).0)) y

      -- a start counts
      hit : (u ≡ length c) ⊎ (v ≡ length c) → Counting turn c s p (e + 1) u v (n + 1)
      hit z =
          let w = here z in
          let o : suc (e + 1 - length c) ≡ e + 2 - length c = omega (arith, w.0) in
          record {
            k = suc (e + 1 - length c);
            before = omega arith;
            counted = counted_next turn c s q.counted q.before none_before w.1;
            both = record {
              given = open_later given (omega (arith, q.before));
              turned = open_later turned (omega (arith, q.before));
              clear = λ h m. q.both.clear h (omega (arith, q.before));
            };
            to_come = λ h m y. omega (arith, w.0);
            few = omega (arith, q.few);
          }

      miss : ((u ≡ length c) ⊎ (v ≡ length c) → ⊥) → Counting turn c s p (e + 1) u v n
      miss z =
          record {
            k = q.k;
            before = omega (arith, q.before);
            counted = q.counted;
            both = record { given = given; turned = turned; clear = q.both.clear };
            to_come = later;
            few = omega (arith, q.few);
          }
        where
          later : (h : ℕ) → q.k ≤ h → StandsHere turn c s h → e + 1 < h + length c
          later h m (inl y) = open_to_come given (λ r. z (inl r)) h m y
          later h m (inr y) = omega (arith, as_long, open_to_come turned (λ r. z (inr (r ∙ as_long))) h m y)

      pub counting_more : {m : ℕ} → m ≡ whole c u v → Counting turn c s p (e + 1) u v (n + m)
      counting_more {m} w = by (decides_or (is_eq u (length c)) (is_eq v (length c))) w
        where
          by : {d : Bool} → Decides ((u ≡ length c) ⊎ (v ≡ length c)) d → m ≡ from_bool d
              → Counting turn c s p (e + 1) u v (n + m)
          by (yes z) r = rw r (hit z)
          by (no z) r = let o : n ≡ n + m = omega arith in subst (Counting turn c s p (e + 1) u v) o (miss z)

  -- where the next band is taken: behind the starts that do not fit, if those are behind all bands passed
  pub counting_here : {p e g t n w sum r y z u v x : ℕ} → Counting turn c s p e g t n → e < length s
      → r ≡ max g t → y ≡ total c → z ≡ total (turn c)
      → Windowed s (length c) w sum × Skipped s (length c) y z p (e - r) w → Moved w e g t u v x
      → (e ≤ u) × (u < length s) × Counting turn c s w u v x n
  counting_here q l f a b k m = counting_moved (counting_skip q f a b k.1) (omega (arith, k.0.within)) l m
