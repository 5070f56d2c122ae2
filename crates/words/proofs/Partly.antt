-- A text written piece by piece: what is written so far and what is still to come are the whole. While there is room for the
-- whole, there is room for the next piece.
use mathlib.Core.Path.{◌≡◌, sym, ◌∙◌}
use mathlib.Core.List.{List, [], ◌++◌, append_assoc, append-nil}
use Prim.Native.Nat.{ℕ, ◌+◌, ◌≤◌}
use native.Mathlib.Omega.{arith}
use lib.ListN.{length, length-append, take-append-drop}
use Rattle.words.specs.Written.{Written}
use Rattle.words.proofs.Written.{written_length, written_as, both_written}

pub record Partly (row : List ℕ) (at : ℕ) (whole now : List ℕ) (end : ℕ) (rest : List ℕ) : Type 0 where
  pub done : List ℕ
  pub whole_is : whole ≡ done ++ rest
  pub so_far : Written row at done now end
  pub room : at + length whole ≤ length row

-- nothing so far
pub none_yet : (row : List ℕ) (at : ℕ) (whole : List ℕ) → at + length whole ≤ length row → {rest : List ℕ} → whole ≡ rest
    → Partly row at whole row at rest
none_yet row at whole h w =
    let e : at + 0 ≡ at = omega arith in
    record {
      done = [];
      whole_is = w;
      so_far = record { after_is = sym (rw e (take-append-drop at row)); end_is = sym e };
      room = h;
    }

module _ {row : List ℕ} {at : ℕ} {whole now : List ℕ} {end : ℕ} {rest : List ℕ} (p : Partly row at whole now end rest) where
  sizes : length whole ≡ length p.done + length rest
  sizes = rw p.whole_is (length-append p.done rest)

  pub as_long : length now ≡ length row
  as_long = written_length (omega (arith, sizes, p.room)) p.so_far

  -- the next piece
  module _ (s rest' : List ℕ) (e : rest ≡ s ++ rest') where
    pub room_for : end + length s ≤ length now
    room_for =
        let l : length rest ≡ length s + length rest' = rw e (length-append s rest') in
        omega (arith, sizes, as_long, p.room, p.so_far.end_is)

    pub and_then : {next : List ℕ} {end' : ℕ} → Written now end s next end' → Partly row at whole next end' rest'
    and_then w =
        record {
          done = p.done ++ s;
          whole_is = p.whole_is ∙ rw (e, append_assoc);
          so_far = both_written (omega (arith, p.room)) p.so_far w;
          room = p.room;
        }

  -- nothing more to come
  pub all_done : rest ≡ [] → Written row at whole now end
  all_done e = written_as (p.whole_is ∙ rw (e, append-nil)) p.so_far
