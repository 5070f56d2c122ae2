-- The claim on dropping: ours meets it and nothing else does, for every test that decides how one code holds another.
-- Numbers in rising order are told by which they are, so the rule leaves no choice.
use mathlib.Core.Path.{◌≡◌, refl, sym, ap, subst, ◌∙◌}
use mathlib.Core.Logic.{◌⊎◌, inl, inr, ◌≢◌}
use mathlib.Core.Bool.{Bool, true, false, ◌&&◌, false≢true}
use mathlib.Core.List.{List, ◌∷◌, map}
use Prim.Native.Nat.{ℕ, zero, suc, ◌+◌, ◌≤◌, ◌<◌}
use native.Mathlib.Omega.{arith}
use native.Mathlib.Decide.{ℕ_discrete}
use lib.ListN.{length}
use Rattle.words.specs.Lists.{In, Rising}
use Rattle.words.specs.Decides.{Decides}
use Rattle.words.proofs.Deciding.{fails, refuses, decides_via, decides_and, decides_or, is_lt, is_eq}
use Rattle.words.proofs.Lists.{rising_same}
use Rattle.greedy.specs.Dropping.{code_at, Outranks, Dropped, Keeps, Keeper}
use Rattle.greedy.specs.Dropping.{some_below, without, outranks, is_dropped_lem, kept_by}

-- Some number below n, by a test of each.
is_some_below : {P : ℕ → Type 0} {p : ℕ → Bool} → ((j : ℕ) → Decides (P j) (p j)) → (n : ℕ)
    → Decides ((j : ℕ) × (j < n) × P j) (some_below n p)
is_some_below d zero = Decides.no (λ h. omega (arith, h.1))
is_some_below {P} d (suc n) = decides_via there back (decides_or (d n) (is_some_below d n))
  where
    there : P n ⊎ ((j : ℕ) × (j < n) × P j) → (j : ℕ) × (j < suc n) × P j
    there (inl h) = (n, omega arith, h)
    there (inr h) = (h.0, omega (arith, h.1), h.2)

    back : (j : ℕ) × (j < suc n) × P j → P n ⊎ ((j : ℕ) × (j < n) × P j)
    back h = go (ℕ_discrete h.0 n)
      where
        go : Dec (h.0 ≡ n) → P n ⊎ ((j : ℕ) × (j < n) × P j)
        go (yes e) = inl (subst P e h.2)
        go (no m) = inr (h.0, omega (arith, h.1), h.2)

-- The numbers of which p is false.
module _ (p : ℕ → Bool) where
  in_without : (i n k : ℕ) → In k (without p i n) → (i ≤ k) × (k < i + n) × (p k ≡ false)
  in_without i zero k = λ x. absurd x
  in_without i (suc n) k = go (p i) refl (in_without (suc i) n k)
    where
      up : (suc i ≤ k) × (k < suc i + n) × (p k ≡ false) → (i ≤ k) × (k < i + suc n) × (p k ≡ false)
      up h = (omega (arith, h.0), omega (arith, h.1), h.2)

      go : (t : Bool) → p i ≡ t → (In k (without p (suc i) n) → (suc i ≤ k) × (k < suc i + n) × (p k ≡ false))
          → In k (without p i (suc n)) → (i ≤ k) × (k < i + suc n) × (p k ≡ false)
      go true e ih x = up (ih (rw (e, without) at x))
      go false e ih x = first (rw (e, without) at x)
        where
          first : In k (i ∷ without p (suc i) n) → (i ≤ k) × (k < i + suc n) × (p k ≡ false)
          first (inl q) = (omega arith, omega arith, ap p q ∙ e)
          first (inr y) = up (ih y)

  without_in : (i n k : ℕ) → i ≤ k → k < i + n → p k ≡ false → In k (without p i n)
  without_in i zero k l m f = absurd (omega arith)
  without_in i (suc n) k l m f = go (p i) refl (ℕ_discrete k i) (without_in (suc i) n k)
    where
      go : (t : Bool) → p i ≡ t → Dec (k ≡ i) → (suc i ≤ k → k < suc i + n → p k ≡ false → In k (without p (suc i) n))
          → In k (without p i (suc n))
      go true e (yes q) ih = absurd (false≢true (sym f ∙ ap p q ∙ e))
      go true e (no d) ih = rw (e, without) (ih (omega arith) (omega arith) f)
      go false e (yes q) ih = rw (e, without) (inl q)
      go false e (no d) ih = rw (e, without) (inr (ih (omega arith) (omega arith) f))

  rising_without : (i n : ℕ) → Rising (without p i n)
  rising_without i zero = tt
  rising_without i (suc n) = go (p i) refl (rising_without (suc i) n)
    where
      go : (t : Bool) → p i ≡ t → Rising (without p (suc i) n) → Rising (without p i (suc n))
      go true e r = rw (e, without) r
      go false e r = rw (e, without) ((λ j x. (in_without (suc i) n j x).0), r)

pub keeps_one : {Holds : List ℕ → List ℕ → Type 0} {cs ks ls : List (List ℕ)} → Keeps Holds cs ks → Keeps Holds cs ls
    → ks ≡ ls
keeps_one {Holds} {cs} h k = h.codes ∙ ap (map (code_at cs)) numbers ∙ sym k.codes
  where
    over : {ks ls : List (List ℕ)} (h : Keeps Holds cs ks) (k : Keeps Holds cs ls) (i : ℕ) → In i h.numbers
        → In i k.numbers
    over h k i x = let o = h.only i x in k.all i o.0 o.1

    numbers : h.numbers ≡ k.numbers
    numbers = rising_same h.numbers k.numbers h.in_order k.in_order (over h k) (over k h)

module _ {Holds : List ℕ → List ℕ → Type 0} {holds : List ℕ → List ℕ → Bool}
    (is_held_lem : (c s : List ℕ) → Decides (Holds c s) (holds c s)) where
  pub is_dropped : (cs : List (List ℕ)) (i : ℕ) → Decides (Dropped Holds cs i) (is_dropped_lem holds cs i)
  is_dropped cs i = decides_via there back (is_some_below yields (length cs))
    where
      yields : (j : ℕ)
          → Decides (Outranks cs j i × Holds (code_at cs i) (code_at cs j))
          (outranks cs j i && holds (code_at cs i) (code_at cs j))
      yields j =
          decides_and
          (decides_or
          (is_lt (length (code_at cs i)) (length (code_at cs j)))
          (decides_and (is_eq (length (code_at cs i)) (length (code_at cs j))) (is_lt j i)))
          (is_held_lem (code_at cs i) (code_at cs j))

      there : (j : ℕ) × (j < length cs) × (Outranks cs j i × Holds (code_at cs i) (code_at cs j)) → Dropped Holds cs i
      there h =
          record { j = h.0; listed = h.1; other = apart h.2.0; inside = h.2.1; outranks = h.2.0 }
        where
          apart : Outranks cs h.0 i → i ≢ h.0
          apart (inl l) e = omega (arith, ap (λ (k : ℕ). length (code_at cs k)) e)
          apart (inr l) e = omega (arith, l.1)

      back : Dropped Holds cs i → (j : ℕ) × (j < length cs) × (Outranks cs j i × Holds (code_at cs i) (code_at cs j))
      back d = (d.j, d.listed, (d.outranks, d.inside))

  pub keeper_ours : Keeper Holds (kept_by holds)
  keeper_ours cs =
      record {
        numbers = without gone 0 (length cs);
        in_order = rising_without gone 0 (length cs);
        only = λ i x.
            let w = in_without gone 0 (length cs) i x in
            (omega (arith, w.1), fails (is_dropped cs i) w.2);
        all = λ i l n. without_in gone 0 (length cs) i (omega arith) (omega arith) (refuses (is_dropped cs i) n);
        codes = refl;
      }
    where
      gone : ℕ → Bool
      gone = is_dropped_lem holds cs

  pub keeps_only : {cs ks : List (List ℕ)} → Keeps Holds cs ks → ks ≡ kept_by holds cs
  keeps_only {cs} h = keeps_one h (keeper_ours cs)

  pub keeper_only : (keep : List (List ℕ) → List (List ℕ)) → Keeper Holds keep → (cs : List (List ℕ))
      → keep cs ≡ kept_by holds cs
  keeper_only keep h cs = keeps_only (h cs)
