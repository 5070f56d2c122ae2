-- Following a row from face to face, step by step as the definitions do with their fuel: where nothing comes after a face
-- the walk stops, and else goes on.
use mathlib.Core.Path.{◌≡◌, refl, sym, ap, ◌∙◌}
use mathlib.Core.Logic.{inl, inr, ◌≢◌}
use mathlib.Core.List.{List}
use Prim.Native.Nat.{ℕ, zero, suc, ◌-◌, ◌*◌, ◌≤◌, ◌<◌}
use native.Mathlib.Omega.{arith}
use lib.ListN.{get_or}
use Rattle.joins.specs.Faces.{mirror, Join}
use Rattle.joins.specs.Rounds.{after_in, end_from_lem}
use Rattle.joins.specs.Rows.{Row, Records, EndsAt}
use Rattle.joins.proofs.Mirrors.{Sides, sides}
use Rattle.joins.proofs.Allowed.{end_stop, end_go}

pub mirror_below : (n f : ℕ) → f < 2 * n → mirror f < 2 * n
mirror_below n f l = go (sides f)
  where
    go : Sides f → mirror f < 2 * n
    go (inl x) = omega arith
    go (inr x) = omega arith

-- a walk from f that has come to a face, with so many steps left
pub record Walk (n : ℕ) (after : List ℕ) (f at left : ℕ) : Type 0 where
  pub within : at < 2 * n
  pub steps : left ≤ 2 * n
  pub same : (js : List Join) → Records n after js → end_from_lem left at js ≡ end_from_lem (2 * n) f js

stops : (m f : ℕ) (js : List Join) → after_in f js ≡ 0 → end_from_lem m f js ≡ f
stops zero f js e = refl
stops (suc m) f js e = end_stop m f js e

goes : (m f g : ℕ) (js : List Join) → 1 ≤ m → after_in f js ≡ suc g → end_from_lem m f js ≡ end_from_lem (m - 1) g js
goes zero f g js l e = absurd (omega arith)
goes (suc m) f g js l e =
    let k : m ≡ suc m - 1 = omega arith in
    end_go m f g js e ∙ ap (λ (x : ℕ). end_from_lem x g js) k

module _ {n : ℕ} {after : List ℕ} {f at left : ℕ} (r : Walk n after f at left) where
  pub walk_stops : get_or after at 0 ≡ 0 → EndsAt n after f at
  walk_stops e =
      record {
        within = r.within;
        end = λ js h. sym (stops left at js (sym (h at r.within) ∙ e)) ∙ r.same js h;
      }

  pub walk_goes : Row n after → 1 ≤ left → get_or after at 0 ≢ 0 → Walk n after f (get_or after at 0 - 1) (left - 1)
  walk_goes row l d =
      let b = row.within at r.within in
      record {
        within = omega arith;
        steps = omega (arith, r.steps);
        same = λ js h.
            let e : after_in at js ≡ suc (get_or after at 0 - 1) = omega (arith, h at r.within) in
            sym (goes left at (get_or after at 0 - 1) js l e) ∙ r.same js h;
      }
