-- Rows to begin with and to end with: a row of zeros has no joins, and the order is the piece that holds face 0.
use mathlib.Core.Path.{◌≡◌, refl, ap, subst, ◌∙◌}
use mathlib.Core.Bool.{Bool, true, ◌&&◌}
use mathlib.Core.List.{List, [], ◌∷◌}
use Prim.Native.Nat.{ℕ, zero, suc, ◌*◌, ◌≤◌}
use native.Mathlib.Omega.{arith}
use lib.Dec.{eqb}
use lib.ListN.{length, get_or}
use Rattle.words.proofs.Deciding.{holds, decides_and, is_eq, decide}
use Rattle.joins.specs.Faces.{mirror}
use Rattle.joins.specs.Rounds.{end_from_lem, piece_from, piece_of}
use Rattle.joins.specs.Rows.{Unjoined, EndsAt, Wrote, WrotePiece, WroteOrder}

-- a row of zeros has no joins
abbrev pub zeros : List ℕ → Bool
zeros [] = true
zeros (x ∷ xs) = eqb x 0 && zeros xs

zero_at : (xs : List ℕ) → zeros xs ≡ true → (i : ℕ) → get_or xs i 0 ≡ 0
zero_at [] e i = refl
zero_at (x ∷ xs) e i = go (holds (decides_and (is_eq x 0) (decide (zeros xs) (λ h. h) (λ h. h))) e) (zero_at xs) i
  where
    go : (x ≡ 0) × (zeros xs ≡ true) → (zeros xs ≡ true → (i : ℕ) → get_or xs i 0 ≡ 0) → (i : ℕ) → get_or (x ∷ xs) i 0 ≡ 0
    go h ih zero = h.0
    go h ih (suc i) = ih h.1 i

pub no_joins : {n : ℕ} {after : List ℕ} → zeros after ≡ true → n ≤ 128 → 256 ≤ length after → Unjoined n after
no_joins {n} {after} z c l =
    record {
      row = record { codes = c; room = l; within = λ f k. omega (arith, zero_at after z f) };
      records = λ f k. zero_at after z f;
    }

-- The order: the piece that begins at the mirror of where face 0's mirror leads.
pub order_written : {n : ℕ} {after before row : List ℕ} {f e start count : ℕ} → f ≡ mirror 0 → EndsAt n after f e
    → start ≡ mirror e → WrotePiece n after start before row count → WroteOrder n after before row count
order_written {n} {after} {before} {row} {e = e} {start} {count} o at m wrote =
    record {
      wrote = λ js h.
          let d = at.end js h ∙ ap (λ (x : ℕ). end_from_lem (2 * n) x js) o in
          let q : piece_from (2 * n) start js ≡ piece_of n js = ap (λ (x : ℕ). piece_from (2 * n) x js) (m ∙ ap mirror d) in
          subst (λ (x : List ℕ). Wrote x before row count) q (wrote.wrote js h);
    }
