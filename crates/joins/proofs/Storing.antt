-- A join and its mirror stored in a row, as the list of joins has them.
use mathlib.Core.Path.{◌≡◌, sym, ap, ◌∙◌}
use mathlib.Core.Logic.{◌≢◌}
use mathlib.Core.List.{List, ◌∷◌}
use Prim.Native.Nat.{ℕ, suc, ◌+◌, ◌*◌, ◌≤◌, ◌<◌}
use native.Mathlib.Omega.{arith}
use native.Mathlib.Decide.{ℕ_discrete}
use lib.ListN.{length, get_or, set, length-set}
use lib.Seq.{get_or-set_same, get_or-set_other}
use Rattle.joins.specs.Faces.{mirror, Join, join, join_both}
use Rattle.joins.specs.Rounds.{after_in}
use Rattle.joins.specs.Rows.{Row, Records}
use Rattle.joins.proofs.Links.{after_yes, after_not}
use Rattle.joins.proofs.Walks.{mirror_below}

abbrev pub stored : List ℕ → ℕ → ℕ → List ℕ
stored after a b = set (set after (mirror b) (mirror a + 1)) a (b + 1)

module _ {n : ℕ} {after : List ℕ} {a b : ℕ} (row : Row n after) (la : a < 2 * n) (lb : b < 2 * n) where
  abbrev once : List ℕ
  once = set after (mirror b) (mirror a + 1)

  long : 256 ≤ length once
  long = omega (arith, row.room, length-set after (mirror b) (mirror a + 1))

  at_left : get_or (stored after a b) a 0 ≡ suc b
  at_left = get_or-set_same once a (b + 1) 0 (omega (arith, long, row.codes)) ∙ omega arith

  at_mirror : mirror b ≢ a → get_or (stored after a b) (mirror b) 0 ≡ suc (mirror a)
  at_mirror d =
      let l : mirror b < length after = omega (arith, mirror_below n b lb, row.codes, row.room) in
      get_or-set_other once a (mirror b) (b + 1) 0 d
      ∙ get_or-set_same after (mirror b) (mirror a + 1) 0 l
      ∙ omega arith

  at_other : (f : ℕ) → f ≢ a → f ≢ mirror b → get_or (stored after a b) f 0 ≡ get_or after f 0
  at_other f d e = get_or-set_other once a f (b + 1) 0 d ∙ get_or-set_other after (mirror b) f (mirror a + 1) 0 e

  pub stored_row : Row n (stored after a b)
  stored_row =
      record {
        codes = row.codes;
        room = omega (arith, long, length-set once a (b + 1));
        within = λ f l. go f l (ℕ_discrete f a) (ℕ_discrete f (mirror b));
      }
    where
      go : (f : ℕ) → f < 2 * n → Dec (f ≡ a) → Dec (f ≡ mirror b) → get_or (stored after a b) f 0 ≤ 2 * n
      go f l (yes e) q = rw (e, at_left) lb
      go f l (no d) (yes q) = rw (q, at_mirror (λ e. d (q ∙ e))) (mirror_below n a la)
      go f l (no d) (no e) = rw (at_other f d e) (row.within f l)

  pub stored_records : (js : List Join) → Records n after js → Records n (stored after a b) (join_both a b js)
  stored_records js h = λ f l. go f l (ℕ_discrete f a) (ℕ_discrete f (mirror b))
    where
      go : (f : ℕ) → f < 2 * n → Dec (f ≡ a) → Dec (f ≡ mirror b)
          → get_or (stored after a b) f 0 ≡ after_in f (join_both a b js)
      go f l (yes e) q =
          ap (λ (x : ℕ). get_or (stored after a b) x 0) e
          ∙ at_left
          ∙ sym (after_yes f a b (join (mirror b) (mirror a) ∷ js) e)
      go f l (no d) (yes q) =
          ap (λ (x : ℕ). get_or (stored after a b) x 0) q
          ∙ at_mirror (λ e. d (q ∙ e))
          ∙ sym (after_yes f (mirror b) (mirror a) js q)
          ∙ sym (after_not f a b (join (mirror b) (mirror a) ∷ js) d)
      go f l (no d) (no e) =
          at_other f d e
          ∙ h f l
          ∙ sym (after_not f (mirror b) (mirror a) js e)
          ∙ sym (after_not f a b (join (mirror b) (mirror a) ∷ js) d)
