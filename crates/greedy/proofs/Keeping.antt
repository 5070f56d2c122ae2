-- What follows of kept codes: none holds another, and all codes stand on a row exactly if the kept ones do.
-- A dropped code stands in one that outranks it. From that one on to the next, a kept code is reached at last, since
-- lengths go up to a greatest, and among codes of one length numbers go down.
use mathlib.Core.Path.{◌≡◌, refl, sym, ap, subst}
use mathlib.Core.Logic.{inl, inr, ◌≢◌}
use mathlib.Core.Bool.{Bool}
use mathlib.Core.List.{List, [], ◌∷◌, map}
use Prim.Native.Nat.{ℕ, zero, suc, ◌+◌, ◌≤◌, ◌<◌}
use native.Mathlib.Omega.{arith}
use native.Mathlib.Decide.{ℕ_discrete, dec_le}
use lib.ListN.{length, get_or}
use Rattle.words.specs.Lists.{In, Each, Rising}
use Rattle.words.specs.Turn.{Turning}
use Rattle.words.specs.Stand.{StandsSomeWay}
use Rattle.words.specs.Decides.{Decides}
use Rattle.words.proofs.Lists.{in_map, map_in, in_each, each_in}
use Rattle.words.proofs.Standing.{way_within, way_length, way_swap}
use Rattle.lists.specs.Runs.{total, lengths}
use Rattle.greedy.specs.Dropping.{code_at, Outranks, Dropped, Keeps}
use Rattle.greedy.proofs.Dropping.{is_dropped}

-- what one code holding another must have
pub record Holding (Holds : List ℕ → List ℕ → Type 0) : Type 0 where
  pub within : {b c s : List ℕ} → Holds b c → Holds c s → Holds b s
  pub no_longer : {c s : List ℕ} → Holds c s → length c ≤ length s
  pub swap : {c s : List ℕ} → length c ≡ length s → Holds c s → Holds s c

pub holding : {turn : List ℕ → List ℕ} → Turning turn → Holding (StandsSomeWay turn)
holding t = record { within = way_within t; no_longer = way_length t; swap = way_swap t }

-- elements by their numbers
pub code_in_lem : (cs : List (List ℕ)) (i : ℕ) → i < length cs → In (code_at cs i) cs
code_in_lem [] i l = absurd (omega arith)
code_in_lem (c ∷ cs) zero l = inl refl
code_in_lem (c ∷ cs) (suc i) l = inr (code_in_lem cs i (omega arith))

pub in_code : (cs : List (List ℕ)) (c : List ℕ) → In c cs → (i : ℕ) × (i < length cs) × (c ≡ code_at cs i)
in_code [] c x' = elim x' [ ]
in_code (d ∷ cs) c (inl e) = (0, omega arith, e)
in_code (d ∷ cs) c (inr x) = let r = in_code cs c x in (suc r.0, omega (arith, r.1), r.2)

number_at : (cs : List (List ℕ)) (ns : List ℕ) (k : ℕ) → k < length (map (code_at cs) ns)
    → In (get_or ns k 0) ns × (code_at (map (code_at cs) ns) k ≡ code_at cs (get_or ns k 0))
number_at cs [] k l = absurd (omega arith)
number_at cs (n ∷ ns) zero l = (inl refl, refl)
number_at cs (n ∷ ns) (suc k) l = let r = number_at cs ns k (omega arith) in (inr r.0, r.1)

rising_at : (cs : List (List ℕ)) (ns : List ℕ) → Rising ns → (k l : ℕ) → k < length (map (code_at cs) ns)
    → l < length (map (code_at cs) ns) → get_or ns k 0 ≡ get_or ns l 0 → k ≡ l
rising_at cs [] r k l p q e = absurd (omega arith)
rising_at cs (n ∷ ns) r zero zero p q e = refl
rising_at cs (n ∷ ns) r zero (suc l) p q e =
    absurd (omega (arith, r.0 (get_or ns l 0) (number_at cs ns l (omega arith)).0))
rising_at cs (n ∷ ns) r (suc k) zero p q e =
    absurd (omega (arith, r.0 (get_or ns k 0) (number_at cs ns k (omega arith)).0))
rising_at cs (n ∷ ns) r (suc k) (suc l) p q e = ap suc (rising_at cs ns r.1 k l (omega arith) (omega arith) e)

code_length : (cs : List (List ℕ)) (i : ℕ) → i < length cs → length (code_at cs i) ≤ total (lengths cs)
code_length [] i l = absurd (omega arith)
code_length (c ∷ cs) zero l = omega arith
code_length (c ∷ cs) (suc i) l = omega (arith, code_length cs i (omega arith))

-- no code of the list is held by another
abbrev pub Apart : (List ℕ → List ℕ → Type 0) → List (List ℕ) → Type 0
Apart Holds ks = (k l : ℕ) → k < length ks → l < length ks → Holds (code_at ks k) (code_at ks l) → k ≡ l

module _ {Holds : List ℕ → List ℕ → Type 0} (law : Holding Holds) where
  -- of two codes of which one holds the other, one is dropped
  one_dropped : (cs : List (List ℕ)) (i j : ℕ) → i < length cs → j < length cs → Holds (code_at cs i) (code_at cs j)
      → (Dropped Holds cs i → ⊥) → (Dropped Holds cs j → ⊥) → i ≡ j
  one_dropped cs i j l m h n o = go (ℕ_discrete i j) (dec_le (length d) (length c)) (dec_le j i)
    where
      c : List ℕ
      c = code_at cs i

      d : List ℕ
      d = code_at cs j

      as_long : length d ≤ length c → length c ≡ length d
      as_long p = omega (arith, law.no_longer h)

      drop_i : i ≢ j → Outranks cs j i → ⊥
      drop_i x p = n (record { j = j; listed = m; other = x; inside = h; outranks = p })

      drop_j : j ≢ i → length c ≡ length d → Outranks cs i j → ⊥
      drop_j x e p = o (record { j = i; listed = l; other = x; inside = law.swap e h; outranks = p })

      go : Dec (i ≡ j) → Dec (length d ≤ length c) → Dec (j ≤ i) → i ≡ j
      go (yes e) p q = e
      go (no x) (no p) q = absurd (drop_i x (inl (omega arith)))
      go (no x) (yes p) (yes q) = absurd (drop_i x (inr (as_long p, omega arith)))
      go (no x) (yes p) (no q) =
          absurd (drop_j (λ e. x (sym e)) (as_long p) (inr (sym (as_long p), omega arith)))

  pub keeps_apart : {cs ks : List (List ℕ)} → Keeps Holds cs ks → Apart Holds ks
  keeps_apart {cs} {ks} h = subst (Apart Holds) (sym h.codes) apart
    where
      ns : List ℕ
      ns = h.numbers

      apart : Apart Holds (map (code_at cs) ns)
      apart k l p q x =
          let a = number_at cs ns k p in
          let b = number_at cs ns l q in
          let u = h.only (get_or ns k 0) a.0 in
          let v = h.only (get_or ns l 0) b.0 in
          let y = rw (a.1, b.1) at x in
          let e = one_dropped cs (get_or ns k 0) (get_or ns l 0) u.0 v.0 y u.1 v.1 in
          rising_at cs ns h.in_order k l p q e

  -- from each code on to one that outranks it
  module _ {holds : List ℕ → List ℕ → Bool} (is_held_lem : (c s : List ℕ) → Decides (Holds c s) (holds c s))
      (cs ks : List (List ℕ)) (keeps : Keeps Holds cs ks) (row : List ℕ) (on : Each (λ c. Holds c row) ks) where
    abbrev On : ℕ → Type 0
    On i = Holds (code_at cs i) row

    climb : (i : ℕ) → i < length cs → ((j : ℕ) → j < length cs → Outranks cs j i → On j) → On i
    climb i l up = go (is_dropped is_held_lem cs i)
      where
        stays : (Dropped Holds cs i → ⊥) → On i
        stays n =
            let x = in_map (code_at cs) i keeps.numbers (keeps.all i l n) in
            each_in (λ c. Holds c row) ks (code_at cs i) on (subst (In (code_at cs i)) (sym keeps.codes) x)

        go : {t : Bool} → Decides (Dropped Holds cs i) t → On i
        go (Decides.yes d) = law.within d.inside (up d.j d.listed d.outranks)
        go (Decides.no n) = stays n

    -- the codes of one length, those that are longer being done; n goes down with the number
    level : (m : ℕ) → ((i : ℕ) → i < length cs → total (lengths cs) < length (code_at cs i) + m → On i)
        → (n i : ℕ) → i < n → i < length cs → total (lengths cs) ≤ length (code_at cs i) + m → On i
    level m up zero i a l b = absurd (omega arith)
    level m up (suc n) i a l b = climb i l (λ j k. go j k (level m up n j))
      where
        go : (j : ℕ) → j < length cs → (j < n → j < length cs → total (lengths cs) ≤ length (code_at cs j) + m → On j)
            → Outranks cs j i → On j
        go j k ih (inl d) = up j k (omega arith)
        go j k ih (inr d) = ih (omega (arith, d.1)) k (omega (arith, d.0))

    -- the codes to which at most m bands are wanting for the greatest length
    levels : (m i : ℕ) → i < length cs → total (lengths cs) ≤ length (code_at cs i) + m → On i
    levels zero i l b = level 0 (λ j k c. absurd (omega (arith, code_length cs j k))) (suc i) i (omega arith) l b
    levels (suc m) i l b = level (suc m) (λ j k c. levels m j k (omega arith)) (suc i) i (omega arith) l b

    -- where the kept codes stand, all do
    pub keeps_stand : Each (λ c. Holds c row) cs
    keeps_stand = in_each (λ c. Holds c row) cs each
      where
        each : (c : List ℕ) → In c cs → Holds c row
        each c x =
            let r = in_code cs c x in
            rw r.2 (levels (total (lengths cs)) r.0 r.1 (omega arith))

-- and where all codes stand, the kept ones do, being some of them
pub stand_keeps : {Holds : List ℕ → List ℕ → Type 0} {cs ks : List (List ℕ)} (P : List ℕ → Type 0) → Keeps Holds cs ks
    → Each P cs → Each P ks
stand_keeps {cs = cs} {ks = ks} P h on = in_each P ks (λ c x. each c (rw h.codes at x))
  where
    each : (c : List ℕ) → In c (map (code_at cs) h.numbers) → P c
    each c x =
        let r = map_in (code_at cs) c h.numbers x in
        rw r.2 (each_in P cs (code_at cs r.0) on (code_in_lem cs r.0 (h.only r.0 r.1).0))
