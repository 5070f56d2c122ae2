-- A list turned: as long as before, back again when turned twice, and the parts in the other order.
-- It is so for every map that is its own inverse; and `turned`, by its claim, leaves no choice.
use mathlib.Core.Path.{◌≡◌, refl, sym, ◌∙◌}
use mathlib.Core.List.{List, [], ◌∷◌, ◌++◌, append_assoc, append-nil}
use Prim.Native.Nat.{ℕ, zero, suc, ◌+◌, ◌-◌, ◌<◌}
use native.Mathlib.Omega.{arith}
use lib.ListN.{length, get_or, length-append, get_or-append}
use lib.Seq.{get_or_at, ext_get_or}
use Rattle.words.specs.Lists.{Each}
use Rattle.words.specs.Turn.{turned_by, turned, Turning, Turns}
use Rattle.words.proofs.Lists.{each_append}

module _ {A : Type 0} (m : A → A) where
  pub by_length : (c : List A) → length (turned_by m c) ≡ length c
  by_length [] = refl
  by_length (b ∷ c) = omega (arith, length-append (turned_by m c) (m b ∷ []), by_length c)

  pub by_parts : (a b : List A) → turned_by m (a ++ b) ≡ turned_by m b ++ turned_by m a
  by_parts [] b = sym (append-nil (turned_by m b))
  by_parts (x ∷ a) b = rw (by_parts a b) (append_assoc (turned_by m b) (turned_by m a) (m x ∷ []))

  pub by_back : ((b : A) → m (m b) ≡ b) → (c : List A) → turned_by m (turned_by m c) ≡ c
  by_back inverse [] = refl
  by_back inverse (b ∷ c) = rw (by_parts (turned_by m c) (m b ∷ []), inverse b, by_back inverse c)

pub turning_by : (m : ℕ → ℕ) → ((b : ℕ) → m (m b) ≡ b) → Turning (turned_by m)
turning_by m inverse = record { as_long = by_length m; back = by_back m inverse; parts = by_parts m }

pub turning : Turning turned
unfolding turned
turning = turning_by (λ b. b) (λ b. refl)

-- what holds of each band holds of each when turned
pub turned_each : (P : ℕ → Type 0) (c : List ℕ) → Each P c → Each P (turned c)
unfolding turned
turned_each P [] h = tt
turned_each P (b ∷ c) (p, h) = each_append P (turned c) (b ∷ []) (turned_each P c h) (p, tt)

-- The claim on `turned`: ours meets it, and nothing else does.
from_back : (c : List ℕ) (i j : ℕ) → suc (i + j) ≡ length c → get_or (turned c) i 0 ≡ get_or c j 0
unfolding turned
from_back [] i j e = absurd (omega arith)
from_back (b ∷ c) i zero e = get_or_at (turned c) b [] 0 i (omega (arith, turning.as_long c))
from_back (b ∷ c) i (suc j) e =
    let l : i < length (turned c) = omega (arith, turning.as_long c) in
    get_or-append (turned c) (b ∷ []) 0 i l ∙ from_back c i j (omega arith)

pub turns_ours : Turns turned
turns_ours c = record { as_long = turning.as_long c; from_back = from_back c }

pub turns_only : (turn : List ℕ → List ℕ) → Turns turn → (c : List ℕ) → turn c ≡ turned c
turns_only turn h c = ext_get_or 0 (turn c) (turned c) ((h c).as_long ∙ sym (turning.as_long c)) at
  where
    at : (i : ℕ) → i < length (turn c) → get_or (turn c) i 0 ≡ get_or (turned c) i 0
    at i l =
        let e : suc (i + (length c - suc i)) ≡ length c = omega (arith, (h c).as_long) in
        (h c).from_back i _ e ∙ sym (from_back c i _ e)
