-- A word stands in a row exactly if the row is: something, the word, something more.
-- So all facts on standing are facts on lists cut in two ways, and the tests decide them.
use mathlib.Core.Path.{◌≡◌, refl, sym, ap, subst, ◌∙◌}
use mathlib.Core.Logic.{◌⊎◌, inl, inr}
use mathlib.Core.List.{List, [], ◌∷◌, ◌++◌, append_assoc, append-nil, tail-eq_of_cons-eq}
use Prim.Native.Nat.{ℕ, ◌+◌, ◌≤◌}
use native.Mathlib.Omega.{arith}
use native.Mathlib.Nat.{not-suc-le-zero, le_of_suc-le-suc}
use lib.ListN.{length, length-append}
use Rattle.words.specs.Turn.{Turning}
use Rattle.words.specs.Stand.{Stands, StandsSomeWay, begins, stands_in, some_way}
use Rattle.words.specs.Decides.{Decides, yes, no}
use Rattle.words.proofs.Deciding.{decides_via, decides_and, decides_or, is_eq}

-- two ways to cut one list: the shorter front is a front of the longer (Levi's lemma)
pub record Between (a b c d : List ℕ) : Type 0 where
  pub mid : List ℕ
  pub front : c ≡ a ++ mid
  pub back : b ≡ mid ++ d

pub between : (a b c d : List ℕ) → a ++ b ≡ c ++ d → length a ≤ length c → Between a b c d
between [] b c d e h = record { mid = c; front = refl; back = e }
between (x ∷ a) b [] d e h = absurd (not-suc-le-zero h)
between (x ∷ a) b (y ∷ c) d e h = go (between a b c d (tail-eq_of_cons-eq e) (le_of_suc-le-suc h))
  where
    go : Between a b c d → Between (x ∷ a) b (y ∷ c) d
    go r = record { mid = r.mid; front = cc r.front; back = r.back }

-- The tests decide.
abbrev pub Begins : List ℕ → List ℕ → Type 0
Begins c s = (y : List ℕ) × (s ≡ c ++ y)

pub is_beginning : (c s : List ℕ) → Decides (Begins c s) (begins c s)
is_beginning [] s = yes (s, refl)
is_beginning (x ∷ c) [] = no (λ h. let z : ◌≡◌ {A = ℕ} 0 1 = cc h.1 in omega arith)
is_beginning (x ∷ c) (z ∷ s) = decides_via there back (decides_and (is_eq x z) (is_beginning c s))
  where
    there : (x ≡ z) × Begins c s → Begins (x ∷ c) (z ∷ s)
    there h = (h.1.0, cc (h.0, h.1.1))

    back : Begins (x ∷ c) (z ∷ s) → (x ≡ z) × Begins c s
    back h = (cc h.1, (h.0, tail-eq_of_cons-eq h.1))

pub begins_stands : {c s : List ℕ} → Begins c s → Stands c s
begins_stands h = record { before = []; after = h.0; parts = h.1 }

stands_later : (b : ℕ) {c s : List ℕ} → Stands c s → Stands c (b ∷ s)
stands_later b h =
    record { before = b ∷ h.before; after = h.after; parts = ap (λ (l : List ℕ). b ∷ l) h.parts }

pub is_standing : (c s : List ℕ) → Decides (Stands c s) (stands_in c s)
is_standing c [] = decides_via begins_stands back (is_beginning c [])
  where
    back : Stands c [] → Begins c []
    back h = go h.before h.parts
      where
        go : (x : List ℕ) → [] ≡ x ++ (c ++ h.after) → Begins c []
        go [] e = (h.after, e)
        go (b ∷ x) e = let z : ◌≡◌ {A = ℕ} 0 1 = cc (e) in absurd (omega arith)
is_standing c (b ∷ s) = decides_via there back (decides_or (is_beginning c (b ∷ s)) (is_standing c s))
  where
    there : Begins c (b ∷ s) ⊎ Stands c s → Stands c (b ∷ s)
    there (inl h) = begins_stands h
    there (inr h) = stands_later b h

    back : Stands c (b ∷ s) → Begins c (b ∷ s) ⊎ Stands c s
    back h = go h.before h.parts
      where
        go : (x : List ℕ) → b ∷ s ≡ x ++ (c ++ h.after) → Begins c (b ∷ s) ⊎ Stands c s
        go [] e = inl (h.after, e)
        go (y ∷ x) e = inr (record { before = x; after = h.after; parts = tail-eq_of_cons-eq e })

pub is_some_way : (turn : List ℕ → List ℕ) (c s : List ℕ) → Decides (StandsSomeWay turn c s) (some_way turn c s)
is_some_way turn c s = decides_or (is_standing c s) (is_standing (turn c) s)

-- One word within another.
pub stands_self : (c : List ℕ) → Stands c c
stands_self c = record { before = []; after = []; parts = sym (append-nil c) }

pub stands_after : (t : List ℕ) {c s : List ℕ} → Stands c s → Stands c (t ++ s)
stands_after t {c} h =
    record {
      before = t ++ h.before;
      after = h.after;
      parts = cc (h.parts, append_assoc t h.before (c ++ h.after));
    }

stands_front : {c s : List ℕ} (t : List ℕ) → Stands c s → Stands c (s ++ t)
stands_front {c} t h =
    record {
      before = h.before;
      after = h.after ++ t;
      parts = cc (h.parts, append_assoc h.before (c ++ h.after) t, append_assoc c h.after t);
    }

pub stands_within : {b c s : List ℕ} → Stands b c → Stands c s → Stands b s
stands_within {b} h k = subst (Stands b) (sym k.parts) (stands_after k.before (stands_front k.after h))

pub stands_length : {c s : List ℕ} (h : Stands c s) → length s ≡ length h.before + (length c + length h.after)
stands_length h = simp length-append at (ap length h.parts)

pub stands_equal : {c s : List ℕ} → length c ≡ length s → Stands c s → c ≡ s
stands_equal {c} e h =
    sym (h.parts ∙ go h.before h.after (omega (arith, stands_length h)) (omega (arith, stands_length h)))
  where
    go : (x y : List ℕ) → length x ≡ 0 → length y ≡ 0 → x ++ (c ++ y) ≡ c
    go [] [] p q = append-nil c
    go [] (b ∷ y) p q = absurd (omega arith)
    go (a ∷ x) y p q = absurd (omega arith)

-- two words that stand in one: the first starts no later and ends no sooner, so the second stands in it
pub stands_inside : {a b s : List ℕ} (h : Stands a s) (k : Stands b s) → length h.before ≤ length k.before
    → length k.before + length b ≤ length h.before + length a → Stands b a
stands_inside {a} {b} h k l m =
    let u = between h.before (a ++ h.after) k.before (b ++ k.after) (sym h.parts ∙ k.parts) l in
    let n : length (u.mid ++ b) ≤ length a = omega (
      arith,
      length-append u.mid b,
      simp length-append at (ap length u.front),
    ) in
    let v = between (u.mid ++ b) k.after a h.after (append_assoc u.mid b k.after ∙ sym u.back) n in
    record { before = u.mid; after = v.mid; parts = v.front ∙ append_assoc u.mid b v.mid }

-- Either way, for every way of turning.
module _ {turn : List ℕ → List ℕ} (t : Turning turn) where
  pub stands_turned : {c s : List ℕ} → Stands c s → Stands (turn c) (turn s)
  stands_turned {c} h =
      record {
        before = turn h.after;
        after = turn h.before;
        parts = cc (
          h.parts,
          t.parts h.before (c ++ h.after),
          t.parts c h.after,
          append_assoc (turn h.after) (turn c) (turn h.before),
        );
      }

  pub way_of_turned : {c s : List ℕ} → StandsSomeWay turn c s → StandsSomeWay turn (turn c) s
  way_of_turned {c} {s} (inl h) = inr (rw (t.back c) h)
  way_of_turned (inr h) = inl h

  pub way_turned : {c s : List ℕ} → StandsSomeWay turn c s → StandsSomeWay turn c (turn s)
  way_turned (inl h) = inr (stands_turned h)
  way_turned {c} {s} (inr h) = inl (subst (λ (x : List ℕ). Stands x (turn s)) (t.back c) (stands_turned h))

  pub way_within : {b c s : List ℕ} → StandsSomeWay turn b c → StandsSomeWay turn c s → StandsSomeWay turn b s
  way_within {b} {c} {s} h (inl k) = go h
    where
      go : StandsSomeWay turn b c → StandsSomeWay turn b s
      go (inl x) = inl (stands_within x k)
      go (inr x) = inr (stands_within x k)
  way_within {b} {c} {s} h (inr k) = go (way_turned h)
    where
      go : StandsSomeWay turn b (turn c) → StandsSomeWay turn b s
      go (inl x) = inl (stands_within x k)
      go (inr x) = inr (stands_within x k)

  pub way_length : {c s : List ℕ} → StandsSomeWay turn c s → length c ≤ length s
  way_length (inl h) = omega (arith, stands_length h)
  way_length {c} (inr h) = omega (arith, stands_length h, t.as_long c)

  -- words of one length: each stands in the other or neither does
  pub way_swap : {c s : List ℕ} → length c ≡ length s → StandsSomeWay turn c s → StandsSomeWay turn s c
  way_swap {c} n (inl h) = inl (subst (λ (x : List ℕ). Stands x c) (stands_equal n h) (stands_self c))
  way_swap {c} n (inr h) =
      let e = stands_equal (t.as_long c ∙ n) h in
      subst (λ (x : List ℕ). StandsSomeWay turn x c) e (way_of_turned (inl (stands_self c)))
