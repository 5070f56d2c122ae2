-- Words written one behind the other are written as one word; a single band is written by one store, and a word by a
-- copy band by band.
use mathlib.Core.Path.{◌≡◌, refl, sym, ap, subst⁻¹, ◌∙◌}
use mathlib.Core.List.{List, [], ◌∷◌, ◌++◌, append_assoc}
use Prim.Native.Nat.{ℕ, ◌+◌, ◌≤◌, ◌<◌}
use native.Mathlib.Numerals.{add-one}
use native.Mathlib.Omega.{arith}
use lib.ListN.{length, take, drop, set, length-append, length-drop}
use lib.Seq.{paste, length-take-le, take_at, take-length, drop-append-add, drop-drop, set_split}
use Rattle.words.specs.Written.{Written}

-- writing within a row keeps its length
pub written_length : {row : List ℕ} {at : ℕ} {s after : List ℕ} {end : ℕ} → at + length s ≤ length row
    → Written row at s after end → length after ≡ length row
written_length {row} {at} {s} {after} h w =
    let e : length after ≡ length (take at row ++ (s ++ drop (at + length s) row)) = rw w.after_is in
    omega (
      arith,
      length-append (take at row) (s ++ drop (at + length s) row),
      length-append s (drop (at + length s) row),
      length-take-le at row (omega arith),
      length-drop (at + length s) row,
    )

-- another name for what is written
pub written_as : {row : List ℕ} {at : ℕ} {s t after : List ℕ} {end : ℕ} → t ≡ s → Written row at s after end
    → Written row at t after end
written_as {row} {at} {after = after} {end = end} e w = subst⁻¹ (λ (s : List ℕ). Written row at s after end) e w

-- A copy, band by band.
module _ (row : List ℕ) (at : ℕ) (s : List ℕ) {now : List ℕ} {j : ℕ} (so_far : now ≡ paste row at s j) where
  pub copy_written : j ≡ length s → Written row at s now (at + j)
  copy_written e =
      record {
        after_is = so_far ∙ rw (e, take-length) (append_assoc (take at row) s (drop (at + length s) row));
        end_is = ap (λ (n : ℕ). at + n) e;
      }

module _ {row : List ℕ} {at : ℕ} where
  pub one_written : (b : ℕ) → at < length row → Written row at (b ∷ []) (set row at b) (at + 1)
  one_written b h = record { after_is = rw add-one (set_split row at b h); end_is = refl }

  pub both_written : {s t mid after : List ℕ} {k e : ℕ} → at ≤ length row → Written row at s mid k → Written mid k t after e
      → Written row at (s ++ t) after e
  both_written {s} {t} {mid} {after} {k} {e} h v w =
      let p : List ℕ = take at row ++ s in
      let size : length p ≡ k = omega (arith, length-append (take at row) s, length-take-le at row h, v.end_is) in
      let rest : List ℕ = drop (at + length s) row in
      let m : mid ≡ p ++ rest = v.after_is ∙ sym (append_assoc (take at row) s rest) in
      let both : at + length s + length t ≡ at + length (s ++ t) = omega (arith, length-append s t) in
      let front : take k mid ≡ p = rw m (take_at p rest k size) in
      let back : drop (k + length t) mid ≡ drop (at + length (s ++ t)) row =
      rw (m, ← size) (drop-append-add p rest (length t) ∙ drop-drop (length t) (at + length s) row
      ∙ ap (λ (n : ℕ). drop n row) both) in
      record {
        after_is =
            w.after_is
            ∙ cc (
              append_assoc (take at row) s (t ++ drop (at + length (s ++ t)) row),
              append_assoc s t (drop (at + length (s ++ t)) row),
            );
        end_is = omega (arith, w.end_is, v.end_is, both);
      }
