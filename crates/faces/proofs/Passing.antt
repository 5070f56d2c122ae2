-- The pass over the faces of codes: while no join of more than o bands is allowed, the faces that begin with the last o bands
-- of a are those with overlap o from a.
use mathlib.Core.Path.{◌≡◌, subst}
use mathlib.Core.List.{List}
use Prim.Native.Nat.{ℕ, ◌+◌, ◌*◌, ◌≤◌, ◌<◌}
use native.Mathlib.Omega.{arith}
use lib.ListN.{length, get_or, set}
use Rattle.std.proofs.Common.{Some, None}
use Rattle.words.specs.Turn.{turned}
use Rattle.words.specs.Overlap.{Shares}
use Rattle.words.proofs.Overlaps.{overlap_shares, overlap_longest, overlap_right}
use Rattle.joins.specs.Faces.{mirror}
use Rattle.joins.specs.Rows.{Unjoined, EndsAt}
use Rattle.joins.specs.Pass.{PassedRow, Joinable}
use Rattle.joins.proofs.Passing.{row_start, row_none, row_made}
use Rattle.greedy.specs.Reading.{face_of, shared}
use Rattle.parts.specs.Parts.{Short}
use Rattle.parts.proofs.Faces.{face_short}
use Rattle.faces.specs.Passing.{Follows, LowestFollows}

-- before any join: no face has more than 64 bands
pub pass_begun : (ks : List (List ℕ)) {after : List ℕ} → Short ks → Unjoined (length ks) after
    → PassedRow (length ks) (shared turned ks) after 65 (2 * length ks)
pass_begun ks short u =
    row_start u
    (λ c d lc ld. omega (arith, overlap_right (face_of turned ks c) (face_of turned ks d), face_short ks short d))

module _ {ks : List (List ℕ)} {after : List ℕ} {a o head : ℕ} where
  -- what follows can be joined, and has at least so large an overlap
  follows_joins : {b : ℕ} → Follows ks after a o head b → Joinable (length ks) after a head b
  follows_joins f =
      record { within = f.within; begins = f.begins; unclosed = f.unclosed; unmirrored = f.unmirrored }

  follows_large : {b : ℕ} → Follows ks after a o head b → o ≤ shared turned ks a b
  follows_large {b} f = overlap_longest (face_of turned ks a) (face_of turned ks b) o f.shares

  -- and what can be joined with just that overlap follows
  joins_follow : {b : ℕ} → Joinable (length ks) after a head b → shared turned ks a b ≡ o → Follows ks after a o head b
  joins_follow {b} j e =
      let x = face_of turned ks a in
      let y = face_of turned ks b in
      record {
        within = j.within;
        shares = subst (Shares x y) e (overlap_shares x y);
        begins = j.begins;
        unclosed = j.unclosed;
        unmirrored = j.unmirrored;
      }

  -- the join from a, found or not
  module _ {m e : ℕ} (P : PassedRow (length ks) (shared turned ks) after o a) (la : a < 2 * length ks)
      (open-a : get_or after a 0 ≡ 0) (m-is : m ≡ mirror a) (at : EndsAt (length ks) after m e) (head_is : head ≡ mirror e) where
    pub none_follows : LowestFollows ks after a o head None → PassedRow (length ks) (shared turned ks) after o (a + 1)
    none_follows none = row_none P la open-a m-is at head_is (λ d j q. none d (joins_follow j q))

    pub one_follows : {new : List ℕ} (b : ℕ) → LowestFollows ks after a o head (Some b)
        → new ≡ set (set after (mirror b) (mirror a + 1)) a (b + 1) → PassedRow (length ks) (shared turned ks) new o (a + 1)
    one_follows b f made =
        row_made P la open-a m-is at head_is
        (follows_joins f.0)
        (follows_large f.0)
        (λ d j q. f.1 d (joins_follow j q))
        made
