-- A pass along a word: the match held after each band, beside a row that has the fall-backs from it.
use mathlib.Core.Path.{◌≡◌, sym}
use mathlib.Core.Bool.{Bool}
use mathlib.Core.List.{List}
use Prim.Native.Nat.{ℕ, ◌+◌, ◌-◌, ◌≤◌, ◌<◌}
use native.Mathlib.Omega.{arith}
use lib.ListN.{length, get_or}
use Rattle.words.specs.Ways.{way_of}
use Rattle.words.specs.Falling.{Held, FallBacks, Filled, Follows, Advances}
use Rattle.words.proofs.Ways.{way_size}
use Rattle.words.proofs.Falling.{held_none, held_more, held_in, advances_one}
use Rattle.words.proofs.FallBacks.{falls_one, falls_fewer, filled_for}

-- m bands of b are held after i bands of a; the row is filled up to o bands, which suffice
pub record Passed (a b falls : List ℕ) (o m i : ℕ) : Type 0 where
  pub within : i ≤ length a
  pub held : Held a b i m
  pub filled : Filled b falls o m

pub passed_none : (a b falls : List ℕ) → 1 < length falls → get_or falls 1 0 ≡ 0 → Passed a b falls 1 0 0
passed_none a b falls l e =
    record {
      within = omega arith;
      held = held_none a b;
      filled = record { first = omega arith; known = omega arith; row = falls_one b falls l e };
    }

module _ {a b falls : List ℕ} {o m i : ℕ} (h : Passed a b falls o m i) where
  pub passed_held : m ≤ length b
  passed_held = (held_in a b i m h.within h.held).1

  pub passed_row : FallBacks b falls m
  passed_row = falls_fewer h.filled.row h.filled.known

  -- one band further
  module _ {x r : ℕ} (n : Follows a i x) (f : Advances b m x r) where
    next : Held a b (i + 1) r
    next = held_more a b i m x r n h.held f

    pub passed_next : (r ≤ i + 1) × (r ≤ length b) × Filled b falls o (r - 1)
    passed_next =
        let w = held_in a b (i + 1) r (omega (arith, n.0)) next in
        let l : r - 1 ≤ o = omega (arith, advances_one passed_held f, h.filled.known) in
        (w.0, w.1, filled_for h.filled l)

    pub passed_more : {row : List ℕ} {p : ℕ} → Filled b row p r → Passed a b row p r (i + 1)
    passed_more g = record { within = omega (arith, n.0); held = next; filled = g }

-- band i of a way of a word
pub follows_from : (way : Bool) (a : List ℕ) (i x : ℕ) → i < length a → x ≡ get_or (way_of way a) i 0 → Follows (way_of way a) i x
follows_from way a i x l e = (omega (arith, way_size way a), sym e)
