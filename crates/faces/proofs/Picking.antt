-- The lowest face that may follow: one face after another is passed.
use mathlib.Core.Path.{◌≡◌, refl, sym, ◌∙◌}
use mathlib.Core.Logic.{◌⊎◌, inl, inr}
use mathlib.Core.List.{List}
use Prim.Native.Nat.{ℕ, ◌+◌, ◌≤◌}
use native.Mathlib.Omega.{arith}
use native.Mathlib.Decide.{ℕ_discrete, dec_le}
use lib.ListN.{get_or}
use Rattle.std.proofs.Common.{Option, Some, None}
use Rattle.faces.specs.Passing.{Lowest, Under, Lower, Among}

module _ (faces : List ℕ) (i : ℕ) {Has : ℕ → Type 0} where
  more : {b : ℕ} → Among faces i Has b → Among faces (i + 1) Has b
  more a = record { place = a.place; within = omega (arith, a.within); at = a.at; has = a.has }

  last : {b : ℕ} → get_or faces i 0 ≡ b → Has b → Among faces (i + 1) Has b
  last e h = record { place = i; within = omega arith; at = e; has = h }

  split : {b : ℕ} → Among faces (i + 1) Has b → Among faces i Has b ⊎ ((get_or faces i 0 ≡ b) × Has b)
  split {b} a = go (ℕ_discrete a.place i)
    where
      go : Dec (a.place ≡ i) → Among faces i Has b ⊎ ((get_or faces i 0 ≡ b) × Has b)
      go (yes e) = inr (rw e at a.at, a.has)
      go (no d) = inl (record { place = a.place; within = omega (arith, a.within); at = a.at; has = a.has })

  pub lowest_next : (old r : Option ℕ) → Lowest (Among faces i Has) old → Lower Has (get_or faces i 0) old r
      → Lowest (Among faces (i + 1) Has) r
  lowest_next old r w t = go t.taken
    where
      -- none of those passed is below r
      under : (old : Option ℕ) → Lowest (Among faces i Has) old → ((l : ℕ) → old ≡ Some l → Under r l) → (b : ℕ)
          → Among faces (i + 1) Has b → Under r b
      under old w falls b a = by (split a)
        where
          earlier : (old : Option ℕ) → Lowest (Among faces i Has) old → ((l : ℕ) → old ≡ Some l → Under r l)
              → Among faces i Has b → Under r b
          earlier None w falls a = absurd (w b a)
          earlier (Some l) w falls a = lower_still r (falls l refl)
            where
              lower_still : (r : Option ℕ) → Under r l → Under r b
              lower_still None h = h
              lower_still (Some r) h = omega (arith, w.1 b a)

          by : Among faces i Has b ⊎ ((get_or faces i 0 ≡ b) × Has b) → Under r b
          by (inl x) = earlier old w falls x
          by (inr x) = rw x.0 at (t.passed (rw x.0 x.1))

      lowest : (r : Option ℕ) → ((b : ℕ) → Among faces (i + 1) Has b → Under r b) → ((b : ℕ) → r ≡ Some b → Among faces (i + 1) Has b)
          → Lowest (Among faces (i + 1) Has) r
      lowest None u h = u
      lowest (Some r) u h = (h r refl, u)

      kept : (old : Option ℕ) → Lowest (Among faces i Has) old → (b : ℕ) → old ≡ Some b → Among faces (i + 1) Has b
      kept None w b e = cc
      kept (Some l) w b e = let k : l ≡ b = cc in rw k at (more w.0)

      go : (r ≡ old) ⊎ ((r ≡ Some (get_or faces i 0)) × Has (get_or faces i 0)) → Lowest (Among faces (i + 1) Has) r
      go (inl e) = lowest r (under old w t.falls) (λ b q. kept old w b (sym e ∙ q))
      go (inr x) = lowest r (under old w t.falls) (λ b q. let k : get_or faces i 0 ≡ b = cc in last k (rw k at x.1))

-- what has one property has another, and the other way round
pub lowest_same : {P Q : ℕ → Type 0} → ((b : ℕ) → P b → Q b) → ((b : ℕ) → Q b → (P b → ⊥) → ⊥) → (r : Option ℕ) → Lowest P r → Lowest Q r
lowest_same to from None w = λ b q. from b q (w b)
lowest_same {Q = Q} to from (Some r) w = (to r w.0, λ b q. under b q (dec_le r b))
  where
    under : (b : ℕ) → Q b → Dec (r ≤ b) → r ≤ b
    under b q (yes l) = l
    under b q (no d) = absurd (from b q (λ p. d (w.1 b p)))
