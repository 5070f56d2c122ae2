-- Both ways at once: at each band the match of each way that is open there. Starts that are passed over because their bands add
-- up otherwise are starts at which no way stands.
use mathlib.Core.Path.{◌≡◌, refl}
use mathlib.Core.Logic.{inl, inr}
use mathlib.Core.Bool.{Bool}
use mathlib.Core.List.{List}
use Prim.Native.Nat.{ℕ, ◌-◌, ◌≤◌, ◌<◌, max}
use native.Mathlib.Omega.{arith}
use lib.ListN.{length}
use Rattle.words.specs.Decides.{Decides, yes, no}
use Rattle.words.specs.Stand.{StandsHere}
use Rattle.words.proofs.Deciding.{is_lt}
use Rattle.words.proofs.Starting.{Open, open_none}
use Rattle.lists.specs.Runs.{total}
use Rattle.windows.specs.Windows.{Skipped}
use Rattle.windows.proofs.Adding.{stands_adds}

-- At the band e the matches of both ways are open, g bands as given and t turned; and no way stands from k on before p.
pub record Both (turn : List ℕ → List ℕ) (c s : List ℕ) (k p e g t : ℕ) : Type 0 where
  pub given : Open c s k e g
  pub turned : Open (turn c) s k e t
  pub clear : (h : ℕ) → k ≤ h → h < p → StandsHere turn c s h → ⊥

module _ {turn : List ℕ → List ℕ} {c s : List ℕ} (as_long : length (turn c) ≡ length c) {k : ℕ} where
  pub both_at : {e p : ℕ} → e ≤ length s → e ≤ p → ((h : ℕ) → k ≤ h → h < p → StandsHere turn c s h → ⊥)
      → Both turn c s k p e 0 0
  both_at l m n =
      record {
        given = open_none l (λ h a b x. n h a (omega arith) (inl x));
        turned = open_none l (λ h a b x. n h a (omega arith) (inr x));
        clear = n;
      }

  module _ {p e g t : ℕ} (b : Both turn c s k p e g t) where
    -- a start before both matches is passed; a later one that does not fit is none either
    pub both_skip : {q r y z : ℕ} → r ≡ max g t → y ≡ total c → z ≡ total (turn c)
        → Skipped s (length c) y z p (e - r) q → Both turn c s k q e g t
    both_skip {q} {r} w u v f =
        record { given = b.given; turned = b.turned; clear = λ h a l. by h a l (is_lt h p) (is_lt h (e - r)) }
      where
        by : (h : ℕ) → k ≤ h → h < q → {y z : Bool} → Decides (h < p) y → Decides (h < e - r) z → StandsHere turn c s h → ⊥
        by h a l (yes d) o x = b.clear h a d x
        by h a l (no d) (yes o) (inl x) = b.given.none_before h a (omega arith) x
        by h a l (no d) (yes o) (inr x) = b.turned.none_before h a (omega arith) x
        by h a l (no d) (no o) (inl x) = f.not_given h (omega arith) (omega arith) l (rw u (stands_adds refl x))
        by h a l (no d) (no o) (inr x) = f.not_turned h (omega arith) (omega arith) l (rw v (stands_adds as_long x))
