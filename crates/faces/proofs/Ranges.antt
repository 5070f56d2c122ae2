-- The lowest face that follows is the lowest that may follow of those that begin with enough bands.
use mathlib.Core.Path.{◌≡◌}
use mathlib.Core.List.{List}
use Prim.Native.Nat.{ℕ, ◌≤◌, ◌<◌}
use native.Mathlib.Omega.{arith}
use lib.ListN.{length}
use Rattle.std.proofs.Common.{Option}
use Rattle.words.specs.Turn.{turned}
use Rattle.joins.specs.Faces.{mirror}
use Rattle.greedy.specs.Reading.{face_of}
use Rattle.sorting.specs.Sorted.{ending, Begin}
use Rattle.sorting.proofs.Sides.{shares_side, side_shares}
use Rattle.faces.specs.Passing.{Follows, MayFollow, Among, LowestFollows, LowestAmong}
use Rattle.faces.proofs.Picking.{lowest_same}

-- a has no o bands
pub follows_none : (ks : List (List ℕ)) (a o : ℕ) {after : List ℕ} {head : ℕ} → length (face_of turned ks a) < o → (b : ℕ)
    → Follows ks after a o head b → ⊥
follows_none ks a o l b h = omega (arith, (shares_side h.shares).0)

module _ {ks : List (List ℕ)} {faces : List ℕ} (a o : ℕ) (fits : o ≤ length (face_of turned ks a))
    (begin : Begin ks (ending o (face_of turned ks a)) faces) (after : List ℕ) (head : ℕ) {other : ℕ} (other-is : other ≡ mirror a) where
  to : (b : ℕ) → Among faces (length faces) (MayFollow after head other) b → Follows ks after a o head b
  to b q =
      record {
        within = omega (arith, begin.within q.place q.within, q.at);
        shares = side_shares (face_of turned ks a) (face_of turned ks b) o fits (rw q.at at (begin.one q.place q.within));
        begins = q.has.begins;
        unclosed = q.has.unclosed;
        unmirrored = rw other-is at q.has.unmirrored;
      }

  from : (b : ℕ) → Follows ks after a o head b → (Among faces (length faces) (MayFollow after head other) b → ⊥) → ⊥
  from b f none =
      begin.each b f.within (shares_side f.shares).1
      (λ i l e. none (record {
        place = i;
        within = l;
        at = e;
        has = record { begins = f.begins; unclosed = f.unclosed; unmirrored = rw other-is f.unmirrored };
      }))

  pub follows_lowest : (r : Option ℕ) → LowestAmong (MayFollow after head other) faces r → LowestFollows ks after a o head r
  follows_lowest r w = lowest_same to from r w
