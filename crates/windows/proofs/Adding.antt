-- Bands added up: a word of n bands stands only where the window of n bands adds up as it does, and a window that moves on by a
-- band gains the band before it and loses its first.
use mathlib.Core.Path.{◌≡◌, ap, subst, ◌∙◌}
use mathlib.Core.Logic.{◌⊎◌, inl, inr}
use mathlib.Core.List.{List, ◌++◌, append_assoc}
use Prim.Native.Nat.{ℕ, zero, suc, ◌+◌, ◌-◌, ◌*◌, ◌≤◌, ◌<◌}
use native.Mathlib.Omega.{arith}
use native.Mathlib.Decide.{dec_lt}
use lib.ListN.{length, take, drop, get_or, length-append, take-append-drop}
use lib.Seq.{take_at, take-append-add, length-take-le}
use Rattle.words.specs.Stand.{StandsAt}
use Rattle.lists.specs.Runs.{total}
use Rattle.lists.proofs.Runs.{total-append, total_more, total_grows}
use Rattle.windows.specs.Windows.{AddsUp, Windowed, Skipped}

pub stands_adds : {c s : List ℕ} {n h : ℕ} → length c ≡ n → StandsAt c s h → AddsUp s n h (total c)
stands_adds {c} {s} {n} {h} q st =
    let x = st.stands.before in
    let y = st.stands.after in
    let p : s ≡ (x ++ c) ++ y = cc (st.stands.parts, append_assoc x c y) in
    let front : take h s ≡ x = ap (take h) st.stands.parts ∙ take_at x (c ++ y) h st.start in
    let l : length (x ++ c) ≡ h + n = omega (arith, length-append x c, st.start) in
    let both : take (h + n) s ≡ x ++ c = ap (take (h + n)) p ∙ take_at (x ++ c) y (h + n) l in
    omega (arith, ap total front, ap total both, total-append x c)

-- the window from a start on, as a part of the row
pub part_adds : (s : List ℕ) (n h : ℕ) → h + n ≤ length s → AddsUp s n h (total (take n (drop h s)))
part_adds s n h l =
    let e : length (take h s) + n ≡ h + n = omega (arith, length-take-le h s (omega arith)) in
    let p : take (h + n) s ≡ take h s ++ take n (drop h s) =
    subst (λ (k : ℕ). take k s ≡ take h s ++ take n (drop h s)) e
    (subst (λ (r : List ℕ). take (length (take h s) + n) r ≡ take h s ++ take n (drop h s)) (take-append-drop h s)
    (take-append-add (take h s) (drop h s) n)) in
    omega (arith, ap total p, total-append (take h s) (take n (drop h s)))

module _ {s : List ℕ} {n h v : ℕ} (w : Windowed s n h v) where
  -- bytes are below 256
  pub adds_small : ((i : ℕ) → get_or s i 0 < 256) → v ≤ 255 * n
  adds_small b = omega (arith, w.adds_up, grows n w.within)
    where
      grows : (m : ℕ) → h + m ≤ length s → total (take (h + m) s) ≤ total (take h s) + 255 * m
      grows zero l = let e : h + 0 ≡ h = omega arith in rw e (omega arith)
      grows (suc m) l =
          let e : h + suc m ≡ suc (h + m) = omega arith in
          rw e (omega (arith, grows m (omega arith), total_more s (h + m) (omega arith), b (h + m)))

  module _ (z : 0 < n) (l : h + n < length s) where
    pub first_in : get_or s h 0 ≤ v
    first_in = omega (arith, w.adds_up, total_more s h (omega arith), total_grows s (suc h) (h + n) (omega arith))

    pub adds_next : Windowed s n (h + 1) (v - get_or s h 0 + get_or s (h + n) 0)
    adds_next =
        let e : h + 1 ≡ suc h = omega arith in
        let f : h + 1 + n ≡ suc (h + n) = omega arith in
        record {
          within = omega arith;
          adds_up = rw (f, e) (omega (arith, w.adds_up, first_in, total_more s h (omega arith), total_more s (h + n) l));
        }

-- Starts passed over: each that is not below the least adds up to neither sum.
pub skipped_more : {s : List ℕ} {n a b least h t v : ℕ} → Skipped s n a b h least t → Windowed s n t v
    → ((least ≤ t) × ((v ≡ a) ⊎ (v ≡ b)) → ⊥) → Skipped s n a b h least (t + 1)
skipped_more {s} {n} {a} {b} {least} {h} {t} {v} k w f =
    record {
      not_given = λ i p q r. past a i r (k.not_given i p q) (λ e l. f (omega arith, inl (omega (arith, w.adds_up))));
      not_turned = λ i p q r. past b i r (k.not_turned i p q) (λ e l. f (omega arith, inr (omega (arith, w.adds_up))));
    }
  where
    past : (x i : ℕ) → i < t + 1 → (i < t → AddsUp s n i x → ⊥) → (i ≡ t → AddsUp s n t x → ⊥) → AddsUp s n i x → ⊥
    past x i r old new y = by (dec_lt i t)
      where
        by : Dec (i < t) → ⊥
        by (yes d) = old d y
        by (no d) = let e : i ≡ t = omega arith in new e (rw e at y)
