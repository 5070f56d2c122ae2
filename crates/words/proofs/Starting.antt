-- A word stands at a start exactly if the row up to its end ends with all of it; and up to an earlier band the row ends with
-- as many of its first bands. So starts are told by what the row passed shares with the word: a match is open while no start
-- before it is left, and it is kept open by the next band, by the fall-back, the longest shorter beginning with which it ends,
-- and by passing over starts at which the word does not stand.
use mathlib.Core.Path.{◌≡◌, sym, subst, ap, ◌∙◌}
use mathlib.Core.List.{List, [], ◌∷◌, ◌++◌, append_assoc}
use Prim.Native.Nat.{ℕ, suc, ◌+◌, ◌-◌, ◌≤◌, ◌<◌}
use native.Mathlib.Omega.{arith}
use native.Mathlib.Numerals.{add-one}
use native.Mathlib.Decide.{ℕ_discrete, dec_lt}
use lib.ListN.{length, take, drop, get_or, take-append-drop, length-append, length-drop}
use lib.Seq.{take_at, take-suc, take-length, length-take-le, drop-drop}
use Rattle.words.specs.Stand.{StandsAt}
use Rattle.words.specs.Overlap.{Shares, Longest}
use Rattle.words.specs.Falling.{FallBack, Advances}
use Rattle.words.proofs.Deciding.{not_lt}
use Rattle.words.proofs.Standing.{stands_length}
use Rattle.words.proofs.Placing.{start_within, left_begins, begins_left}
use Rattle.words.proofs.Overlaps.{shares_left, shares_right}
use Rattle.words.proofs.Falling.{shares_none, shares_behind, shares_end, beginning_held, ends_so, shares_up, shares_down}
use Rattle.words.proofs.Falling.{shares_longer, shares_shorter, held_itself}

-- what is left of the row behind its first k bands
module _ (c s : List ℕ) (k : ℕ) (l : k ≤ length s) where
  pub left_stands : {i : ℕ} → StandsAt c (drop k s) i → StandsAt c s (k + i)
  left_stands {i} h =
      let d : drop i (drop k s) ≡ drop (k + i) s = drop-drop i k s in
      begins_left {s = s} {i = k + i} (omega (arith, length-drop k s, start_within h)) (rw d at (left_begins h))

module _ {c s : List ℕ} where
  -- a word ends within the row
  pub end_within : {i : ℕ} → StandsAt c s i → i + length c ≤ length s
  end_within h = omega (arith, h.start, stands_length h.stands)

  -- e bands behind the start at which it stands
  stands_shares : {k : ℕ} → StandsAt c s k → (e : ℕ) → e ≤ length c → Shares (take (k + e) s) c e
  stands_shares {k} h e l =
      let x = h.stands.before in
      let y = h.stands.after in
      let n : length (take e c) ≡ e = length-take-le e c l in
      let m : length (x ++ take e c) ≡ k + e = omega (arith, length-append x (take e c), h.start) in
      let p : s ≡ (x ++ take e c) ++ (drop e c ++ y) = cc (
        h.stands.parts,
        take-append-drop e c,
        append_assoc (take e c) (drop e c) y,
        append_assoc x (take e c) (drop e c ++ y),
      ) in
      record {
        rest = x;
        shared = take e c;
        more = drop e c;
        ending = ap (take (k + e)) p ∙ take_at (x ++ take e c) (drop e c ++ y) (k + e) m;
        beginning = sym (take-append-drop e c);
        size = n;
      }

  -- all of it, up to the band e
  shares_stands : {k e : ℕ} → k + length c ≡ e → e ≤ length s → Shares (take e s) c (length c) → StandsAt c s k
  shares_stands {k} {e} q l h =
      let n : length (take e s) ≡ e = length-take-le e s l in
      record {
        stands = record {
          before = h.rest;
          after = drop e s;
          parts = cc (
            take-append-drop e s,
            h.ending,
            beginning_held h,
            take-length c,
            append_assoc h.rest c (drop e s),
          );
        };
        start = omega (arith, shares_left h);
      }

-- A match of m bands is open at the band e: the row up to there ends with the first m bands of c, and from the start k on c
-- stands at no start before them.
pub record Open (c s : List ℕ) (k e m : ℕ) : Type 0 where
  pub within : e ≤ length s
  pub shares : Shares (take e s) c m
  pub none_before : (h : ℕ) → k ≤ h → h + m < e → StandsAt c s h → ⊥

module _ {c s : List ℕ} {k : ℕ} where
  -- nothing is held at a band before which c does not stand
  pub open_none : {e : ℕ} → e ≤ length s → ((h : ℕ) → k ≤ h → h < e → StandsAt c s h → ⊥) → Open c s k e 0
  open_none {e} l n =
      record { within = l; shares = shares_none (take e s) c; none_before = λ h a b. n h a (omega arith) }

  module _ {e m : ℕ} (o : Open c s k e m) where
    pub open_in : (m ≤ length c) × (m ≤ e)
    open_in = (
      omega (arith, shares_right o.shares),
      omega (arith, shares_left o.shares, length-take-le e s o.within),
    )

    -- from a later start on
    pub open_later : {n : ℕ} → k ≤ n → Open c s n e m
    open_later l =
        record { within = o.within; shares = o.shares; none_before = λ h a b. o.none_before h (omega arith) b }

    -- all of c: it stands where it ends; else it has ended nowhere yet
    pub open_whole : m ≡ length c → (length c ≤ e) × StandsAt c s (e - length c)
    open_whole q =
        let l : length c ≤ e = omega (arith, open_in.1) in
        (l, shares_stands (omega arith) o.within (rw q at o.shares))

    pub open_to_come : (m ≡ length c → ⊥) → (h : ℕ) → k ≤ h → StandsAt c s h → e < h + length c
    open_to_come q h a x =
        let n : m < length c = by (ℕ_discrete m (length c)) in
        not_lt (λ l. o.none_before h a (omega arith) x)
      where
        by : Dec (m ≡ length c) → m < length c
        by (yes d) = absurd (q d)
        by (no d) = omega (arith, open_in.0)

    module _ (l : e < length s) where
      next_band : take (suc e) s ≡ take e s ++ (get_or s e 0 ∷ [])
      next_band = take-suc s e 0 l

      -- one band further, where c has ended nowhere yet
      pub open_more : {x r : ℕ} → get_or s e 0 ≡ x → Advances c m x r
          → ((h : ℕ) → k ≤ h → StandsAt c s h → e < h + length c) → Open c s k (e + 1) r
      open_more {x} {r} q f live = rw add-one (record { within = l; shares = shares; none_before = none })
        where
          held : Longest (take m c ++ (x ∷ [])) c r
          held = f (take m c) (held_itself open_in.0)

          parts : o.shares.rest ++ (take m c ++ (x ∷ [])) ≡ take (suc e) s
          parts = cc (ends_so o.shares, append_assoc o.shares.rest (take m c) (x ∷ []), next_band, q)

          shares : Shares (take (suc e) s) c r
          shares = subst (λ (t : List ℕ). Shares t c r) parts (shares_behind o.shares.rest held.shares)

          long : length (take m c ++ (x ∷ [])) ≡ m + 1
          long = omega (arith, length-append (take m c) (x ∷ []), length-take-le m c open_in.0)

          none : (h : ℕ) → k ≤ h → h + r < suc e → StandsAt c s h → ⊥
          none h a b y = by (dec_lt (h + m) e)
            where
              by : Dec (h + m < e) → ⊥
              by (yes d) = o.none_before h a d y
              by (no d) =
                  let i : h + (suc e - h) ≡ suc e = omega (arith, open_in.1) in
                  let z : Shares (take (suc e) s) c (suc e - h) =
                  rw i at (stands_shares y (suc e - h) (omega (arith, live h a y))) in
                  let w : Shares (o.shares.rest ++ (take m c ++ (x ∷ []))) c (suc e - h) =
                  subst (λ (t : List ℕ). Shares t c (suc e - h)) (sym parts) z in
                  omega (arith, held.most (suc e - h) (shares_end o.shares.rest (omega (arith, long)) w), open_in.1)

      -- the next band follows
      pub open_match : m < length c → get_or c m 0 ≡ get_or s e 0 → Open c s k (e + 1) (m + 1)
      open_match b q =
          record {
            within = omega arith;
            shares = rw (add-one, next_band) (shares_longer o.shares (b, q));
            none_before = λ h a i. o.none_before h a (omega arith);
          }

      -- the next band does not follow: c does not stand where the match begins
      module _ (b : m < length c) (n : get_or c m 0 ≡ get_or s e 0 → ⊥) where
        stops : (h : ℕ) → h + m ≡ e → StandsAt c s h → ⊥
        stops h q y =
            let i : h + suc m ≡ suc e = omega arith in
            let z : Shares (take (suc e) s) c (suc m) = rw i at (stands_shares y (suc m) (omega arith)) in
            n (shares_shorter {t = take e s} (rw next_band at z)).1.1

        pub open_next : m ≡ 0 → Open c s k (e + 1) 0
        open_next z = open_none (omega arith) (λ h a i. by h a i (dec_lt h e))
          where
            by : (h : ℕ) → k ≤ h → h < e + 1 → Dec (h < e) → StandsAt c s h → ⊥
            by h a i (yes d) = o.none_before h a (omega arith)
            by h a i (no d) = stops h (omega arith)

        pub open_fall : {f : ℕ} → FallBack c m f → Open c s k e f
        open_fall {f} g =
            record {
              within = o.within;
              shares = shares_up o.shares g.ends;
              none_before = λ h a i. by h a i (dec_lt (h + m) e) (dec_lt e (h + m));
            }
          where
            by : (h : ℕ) → k ≤ h → h + f < e → Dec (h + m < e) → Dec (e < h + m) → StandsAt c s h → ⊥
            by h a i (yes d) u = o.none_before h a d
            by h a i (no d) (yes u) = λ y.
                let j : h + (e - h) ≡ e = omega arith in
                let z : Shares (take e s) c (e - h) = rw j at (stands_shares y (e - h) (omega (arith, open_in.0))) in
                omega (arith, g.longest (e - h) (omega arith) (shares_down o.shares (omega arith) z))
            by h a i (no d) (no u) = stops h (omega arith)
