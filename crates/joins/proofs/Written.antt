-- A piece written face by face: what is written so far and what is still to be read are the piece, and behind it the row is
-- as before.
use mathlib.Core.Path.{◌≡◌, sym, ap, ◌∙◌}
use mathlib.Core.Logic.{◌≢◌}
use mathlib.Core.List.{List, [], ◌∷◌, ◌++◌, append_assoc}
use Prim.Native.Nat.{ℕ, suc, ◌+◌, ◌-◌, ◌*◌, ◌≤◌, ◌<◌}
use native.Mathlib.Numerals.{add-one}
use native.Mathlib.Omega.{arith}
use lib.ListN.{length, get_or, set, take, drop, length-set, take-append-drop}
use lib.Seq.{take-suc-set, drop-set-lt, drop-drop, length-take-le}
use Rattle.joins.specs.Faces.{Join}
use Rattle.joins.specs.Rounds.{after_in, piece_from}
use Rattle.joins.specs.Rows.{Row, Records, Wrote, WrotePiece}
use Rattle.joins.proofs.Order.{read_stop, read_go}

-- written from f on so far, with `at` the next face
pub record Writing (n : ℕ) (after : List ℕ) (f : ℕ) (before row : List ℕ) (at count : ℕ) : Type 0 where
  pub within : at < 2 * n
  pub steps : count ≤ 2 * n
  pub size : length row ≡ length before
  pub rest : drop count row ≡ drop count before
  pub read : (js : List Join) → Records n after js
      → take count row ++ piece_from (2 * n - count) at js ≡ piece_from (2 * n) f js

wrote : (piece before row : List ℕ) (k : ℕ) → k ≤ length row → take k row ≡ piece → drop k row ≡ drop k before
    → Wrote piece before row k
wrote piece before row k l t d =
    let c : k ≡ length piece = sym (length-take-le k row l) ∙ ap length t in
    record {
      count = c;
      written =
          sym (take-append-drop k row)
          ∙ ap (λ (x : List ℕ). x ++ drop k row) t
          ∙ ap (λ (x : List ℕ). piece ++ x) (d ∙ ap (λ (i : ℕ). drop i before) c);
    }

reads_stop : (m f : ℕ) (js : List Join) → 1 ≤ m → after_in f js ≡ 0 → piece_from m f js ≡ f ∷ []
reads_stop m f js l e =
    let k : m ≡ suc (m - 1) = omega arith in
    ap (λ (x : ℕ). piece_from x f js) k ∙ read_stop (m - 1) f js e

reads_go : (m k f g : ℕ) (js : List Join) → m ≡ suc k → after_in f js ≡ suc g
    → piece_from m f js ≡ f ∷ piece_from k g js
reads_go m k f g js q e = ap (λ (x : ℕ). piece_from x f js) q ∙ read_go k f g js e

module _ {n : ℕ} {after : List ℕ} {f : ℕ} {before row : List ℕ} {at count : ℕ}
    (can : Row n after) (room : 256 ≤ length before) (r : Writing n after f before row at count) where
  -- one more face
  module _ (l : count < 2 * n) where
    abbrev new : List ℕ
    new = set row count at

    fits : count < length row
    fits = omega (arith, can.codes, r.size)

    size_new : length new ≡ length before
    size_new = length-set row count at ∙ r.size

    taken : take (count + 1) new ≡ take count row ++ (at ∷ [])
    taken = rw (add-one count) (take-suc-set row count at fits)

    dropped : drop (count + 1) new ≡ drop (count + 1) before
    dropped =
        drop-set-lt (count + 1) row count at (omega arith)
        ∙ sym (drop-drop 1 count row)
        ∙ ap (drop 1) r.rest
        ∙ drop-drop 1 count before

    pub writing_stops : get_or after at 0 ≡ 0 → WrotePiece n after f before new (count + 1)
    writing_stops e =
        record {
          wrote = λ js h. wrote (piece_from (2 * n) f js) before new (count + 1) enough (all js h) dropped;
        }
      where
        enough : count + 1 ≤ length new
        enough = omega (arith, fits, size_new, r.size)

        all : (js : List Join) → Records n after js → take (count + 1) new ≡ piece_from (2 * n) f js
        all js h =
            let stop = reads_stop (2 * n - count) at js (omega arith) (sym (h at r.within) ∙ e) in
            taken ∙ ap (λ (x : List ℕ). take count row ++ x) (sym stop) ∙ r.read js h

    pub writing_goes : get_or after at 0 ≢ 0 → Writing n after f before new (get_or after at 0 - 1) (count + 1)
    writing_goes d =
        record {
          within = omega (arith, can.within at r.within);
          steps = omega arith;
          size = size_new;
          rest = dropped;
          read = read_new;
        }
      where
        read_new : (js : List Join) → Records n after js
            → take (count + 1) new ++ piece_from (2 * n - (count + 1)) (get_or after at 0 - 1) js ≡ piece_from (2 * n) f js
        read_new js h =
            let left = 2 * n - (count + 1) in
            let g = get_or after at 0 - 1 in
            let q : 2 * n - count ≡ suc left = omega arith in
            let e : after_in at js ≡ suc g = omega (arith, h at r.within) in
            ap (λ (x : List ℕ). x ++ piece_from left g js) taken
            ∙ append_assoc (take count row) (at ∷ []) (piece_from left g js)
            ∙ ap (λ (x : List ℕ). take count row ++ x) (sym (reads_go (2 * n - count) left at g js q e))
            ∙ r.read js h
