-- Of the joins in a list that may be made, the best: it is in the list and may be made, and none that may be made is
-- better. It is so for every comparison without rings; and all joins between faces are listed.
use mathlib.Core.Path.{◌≡◌, refl, sym, ap, subst, ◌∙◌}
use mathlib.Core.Logic.{◌⊎◌, inl, inr}
use mathlib.Core.Bool.{Bool, true, false, false≢true}
use mathlib.Core.List.{List, [], ◌∷◌, ◌++◌, map}
use Prim.Native.Nat.{ℕ, zero, suc, ◌<◌}
use native.Mathlib.Omega.{arith}
use native.Mathlib.Decide.{ℕ_discrete}
use Rattle.words.specs.Lists.{In}
use Rattle.words.specs.Tests.{pick}
use Rattle.words.proofs.Lists.{in_left, in_right, in_either, in_map, map_in}
use Rattle.joins.specs.Faces.{Join, join}
use Rattle.joins.specs.Rounds.{Best, none, best, prefer, best_of, below, pairs}

-- what a comparison must have
pub record Comparison (better : Join → Join → Bool) : Type 0 where
  pub one_way : (j k : Join) → better k j ≡ true → better j k ≡ false
  pub onward : (i j k : Join) → better i j ≡ false → better j k ≡ false → better i k ≡ false

module _ {better : Join → Join → Bool} (law : Comparison better) (may : Join → Bool) where
  -- the best of the joins in a list
  pub record BestIn (js : List Join) (j : Join) : Type 0 where
    pub listed : In j js
    pub allowed : may j ≡ true
    pub unbeaten : (k : Join) → In k js → may k ≡ true → better k j ≡ false

  -- what the search gives
  abbrev pub Searched : List Join → Best → Type 0
  Searched js none = (k : Join) → In k js → may k ≡ false
  Searched js (best j) = BestIn js j

  itself : (j : Join) → better j j ≡ false
  itself j = go (better j j) refl
    where
      go : (t : Bool) → better j j ≡ t → better j j ≡ false
      go true e = law.one_way j j e
      go false e = e

  passed : (j : Join) (js : List Join) → may j ≡ false → (x : Best) → Searched js x → Searched (j ∷ js) x
  passed j js n none h = neither
    where
      neither : (k : Join) → In k (j ∷ js) → may k ≡ false
      neither k (inl e) = ap may e ∙ n
      neither k (inr i) = h k i
  passed j js n (best b) h =
      record { listed = inr h.listed; allowed = h.allowed; unbeaten = unbeaten }
    where
      unbeaten : (k : Join) → In k (j ∷ js) → may k ≡ true → better k b ≡ false
      unbeaten k (inl e) m = absurd (false≢true (sym n ∙ sym (ap may e) ∙ m))
      unbeaten k (inr i) m = h.unbeaten k i m

  tried : (j : Join) (js : List Join) → may j ≡ true → (x : Best) → Searched js x
      → Searched (j ∷ js) (prefer better j x)
  tried j js a none h = record { listed = inl refl; allowed = a; unbeaten = unbeaten }
    where
      unbeaten : (k : Join) → In k (j ∷ js) → may k ≡ true → better k j ≡ false
      unbeaten k (inl e) m = ap (λ (x : Join). better x j) e ∙ itself j
      unbeaten k (inr i) m = absurd (false≢true (sym (h k i) ∙ m))
  tried j js a (best b) h = go (better b j) refl
    where
      keep : better b j ≡ true → BestIn (j ∷ js) b
      keep e = record { listed = inr h.listed; allowed = h.allowed; unbeaten = unbeaten }
        where
          unbeaten : (k : Join) → In k (j ∷ js) → may k ≡ true → better k b ≡ false
          unbeaten k (inl q) m = ap (λ (x : Join). better x b) q ∙ law.one_way j b e
          unbeaten k (inr i) m = h.unbeaten k i m

      take : better b j ≡ false → BestIn (j ∷ js) j
      take e = record { listed = inl refl; allowed = a; unbeaten = unbeaten }
        where
          unbeaten : (k : Join) → In k (j ∷ js) → may k ≡ true → better k j ≡ false
          unbeaten k (inl q) m = ap (λ (x : Join). better x j) q ∙ itself j
          unbeaten k (inr i) m = law.onward k b j (h.unbeaten k i m) e

      go : (t : Bool) → better b j ≡ t → BestIn (j ∷ js) (pick (better b j) b j)
      go true e = rw e (keep e)
      go false e = rw e (take e)

  pub searched : (js : List Join) → Searched js (best_of better may js)
  searched [] = λ k i. absurd i
  searched (j ∷ js) = go (may j) refl (searched js)
    where
      go : (t : Bool) → may j ≡ t → Searched js (best_of better may js) → Searched (j ∷ js) (best_of better may (j ∷ js))
      go true e h = rw (e, best_of) (tried j js e (best_of better may js) h)
      go false e h = rw (e, best_of) (passed j js e (best_of better may js) h)

-- All joins between the faces below m are tried, and no others.
in_below : (m a : ℕ) → In a (below m) → a < m
in_below zero a x' = elim x' [ ]
in_below (suc m) a (inl e) = omega arith
in_below (suc m) a (inr i) = omega (arith, in_below m a i)

below_in : (m a : ℕ) → a < m → In a (below m)
below_in zero a l = absurd (omega arith)
below_in (suc m) a l = go (ℕ_discrete a m) (below_in m a)
  where
    go : Dec (a ≡ m) → (a < m → In a (below m)) → In a (below (suc m))
    go (yes e) f = inl e
    go (no n) f = inr (f (omega arith))

pair_in : (fs bs : List ℕ) (a b : ℕ) → In a fs → In b bs → In (join a b) (pairs fs bs)
pair_in [] bs a b x'' j = elim x'' [ ]
pair_in (c ∷ fs) bs a b (inl e) j =
    let here = in_left _ (map (join a) bs) _ (in_map (join a) b bs j) in
    subst (λ (x : ℕ). In (join a b) (map (join x) bs ++ pairs fs bs)) e here
pair_in (c ∷ fs) bs a b (inr i) j = in_right _ (map (join c) bs) _ (pair_in fs bs a b i j)

in_pair : (fs bs : List ℕ) (j : Join) → In j (pairs fs bs) → In j.left fs × In j.right bs
in_pair [] bs j i = elim i [ ]
in_pair (c ∷ fs) bs j i = go (in_either j (map (join c) bs) (pairs fs bs) i) (in_pair fs bs j)
  where
    go : In j (map (join c) bs) ⊎ In j (pairs fs bs) → (In j (pairs fs bs) → In j.left fs × In j.right bs)
        → In j.left (c ∷ fs) × In j.right bs
    go (inl h) ih =
        let r = map_in (join c) j bs h in
        (inl (ap (λ (k : Join). k.left) r.2), subst (λ (k : Join). In k.right bs) (sym r.2) r.1)
    go (inr h) ih = let r = ih h in (inr r.0, r.1)

pub all_pairs : (m a b : ℕ) → a < m → b < m → In (join a b) (pairs (below m) (below m))
all_pairs m a b l k = pair_in (below m) (below m) a b (below_in m a l) (below_in m b k)

pub only_pairs : (m : ℕ) (j : Join) → In j (pairs (below m) (below m)) → (j.left < m) × (j.right < m)
only_pairs m j i =
    let r = in_pair (below m) (below m) j i in
    (in_below m j.left r.0, in_below m j.right r.1)
