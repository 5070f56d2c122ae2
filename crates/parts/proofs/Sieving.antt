-- Going through the codes of a list, one after another: one of them holds another, and those that are not dropped are kept.
use mathlib.Core.Path.{◌≡◌, refl, sym, ap, ◌∙◌}
use mathlib.Core.Bool.{Bool, true, false, ◌||◌}
use mathlib.Core.List.{List, [], ◌∷◌, ◌++◌, map, append_assoc, append-nil}
use Prim.Native.Nat.{ℕ, zero, suc, ◌+◌, ◌-◌, ◌≤◌, ◌<◌}
use native.Mathlib.Numerals.{add-one}
use native.Mathlib.Omega.{arith}
use Rattle.std.specs.List.{list_any, range_with_len}
use lib.ListN.{length, length-append}
use Rattle.words.specs.Turn.{turned}
use Rattle.words.specs.Stand.{some_way}
use Rattle.parts.specs.Parts.{Short}
use Rattle.greedy.specs.Dropping.{code_at, some_below, without, is_dropped_lem, kept}

-- a test of some number below n, whether from the first on or from the last on
swap : (x y z : Bool) → (x || (y || z)) ≡ (y || (x || z))
swap true true z = refl
swap true false z = refl
swap false y z = refl

last_first : (p : ℕ → Bool) (a n : ℕ) → list_any p (range_with_len a (suc n)) ≡ (p (a + n) || list_any p (range_with_len a n))
last_first p a zero = let e : a ≡ a + 0 = omega arith in ap (λ (k : ℕ). p k || false) e
last_first p a (suc n) =
    let e : a + 1 + n ≡ a + suc n = omega arith in
    ap (λ (t : Bool). p a || t) (last_first p (a + 1) n)
    ∙ swap (p a) (p (a + 1 + n)) (list_any p (range_with_len (a + 1) n))
    ∙ ap (λ (k : ℕ). p k || (p a || list_any p (range_with_len (a + 1) n))) e

pub some_below_is : (p : ℕ → Bool) (n : ℕ) → list_any p (range_with_len 0 n) ≡ some_below n p
some_below_is p zero = refl
some_below_is p (suc n) =
    let e : 0 + n ≡ n = omega arith in
    last_first p 0 n ∙ ap (λ (k : ℕ). p k || list_any p (range_with_len 0 n)) e ∙ ap (λ (t : Bool). p n || t) (some_below_is p n)

-- of the numbers from i to before n, the first
module _ (p : ℕ → Bool) {n i : ℕ} (h : i < n) where
  more : n - i ≡ suc (n - (i + 1))
  more = omega arith

  without_drop : p i ≡ true → without p i (n - i) ≡ without p (i + 1) (n - (i + 1))
  without_drop e = rw (more, e, without, add-one)

  without_keep : p i ≡ false → without p i (n - i) ≡ i ∷ without p (i + 1) (n - (i + 1))
  without_keep e = rw (more, e, without, add-one)

module _ (cs : List (List ℕ)) where
  abbrev dropped : ℕ → Bool
  dropped = is_dropped_lem (some_way turned) cs

  -- The first i codes are gone through: those of them that are kept, and those from i on that are not dropped, are all that
  -- are kept.
  pub record Sieved (so_far : List (List ℕ)) (i : ℕ) : Type 0 where
    pub most : length so_far ≤ i
    pub codes : so_far ++ map (code_at cs) (without dropped i (length cs - i)) ≡ kept turned cs

  module _ {so_far : List (List ℕ)} {i : ℕ} (sieved : Sieved so_far i) where
    pub sieve_drop : i < length cs → dropped i ≡ true → Sieved so_far (i + 1)
    sieve_drop h e = record { most = omega (arith, sieved.most); codes = rw (without_drop dropped h e) at sieved.codes }

    pub sieve_keep : i < length cs → dropped i ≡ false → Sieved (so_far ++ code_at cs i ∷ []) (i + 1)
    sieve_keep h e =
        record {
          most = omega (arith, sieved.most, length-append so_far (code_at cs i ∷ []));
          codes = append_assoc so_far (code_at cs i ∷ []) (map (code_at cs) (without dropped (i + 1) (length cs - (i + 1))))
              ∙ rw (without_keep dropped h e) at sieved.codes;
        }

    pub sieve_end : length cs ≤ i → so_far ≡ kept turned cs
    sieve_end h = let z : length cs - i ≡ 0 = omega arith in sym (append-nil so_far) ∙ rw z at sieved.codes

-- those that are kept are of the list, so none is longer
pub kept_short : (cs : List (List ℕ)) → Short cs → Short (kept turned cs)
kept_short cs short = go (without (dropped cs) 0 (length cs))
  where
    go : (xs : List ℕ) → Short (map (code_at cs) xs)
    go [] k = omega arith
    go (x ∷ xs) zero = short x
    go (x ∷ xs) (suc k) = go xs k
