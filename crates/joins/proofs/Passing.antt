-- One pass makes the joins of the rounds: a join that a later round allows was allowed before, since what is linked stays
-- linked, so the join that the pass finds is the one that the rule chooses. At the end none is allowed.
use mathlib.Core.Path.{◌≡◌, refl, sym, ap, subst, ◌∙◌}
use mathlib.Core.Logic.{◌⊎◌, inl, inr, ◌≢◌}
use mathlib.Core.List.{List, [], ◌∷◌}
use Prim.Native.Nat.{ℕ, zero, suc, ◌+◌, ◌*◌, ◌/◌, ◌≤◌, ◌<◌}
use native.Mathlib.Omega.{arith}
use lib.ListN.{get_or}
use Rattle.words.specs.Lists.{In}
use Rattle.joins.specs.Faces.{mirror, Join, join, join_both, last_of}
use Rattle.joins.specs.Rules.{Allowed, Chosen, Run, start, round, Remains}
use Rattle.joins.specs.Ends.{Some}
use Rattle.joins.specs.Rounds.{after_in, end_from_lem, layout_of}
use Rattle.joins.specs.Rows.{Records, Unjoined, Laid, EndsAt}
use Rattle.joins.specs.Pass.{Passed, PassedRow, Joinable}
use Rattle.joins.proofs.Mirrors.{mirror-mirror}
use Rattle.joins.proofs.Pieces.{flip, in_last, in_flip, last_flip}
use Rattle.joins.proofs.Arrange.{Arr}
use Rattle.joins.proofs.Links.{after_yes, Piece}
use Rattle.joins.proofs.State.{State, state_arr, state_all, state_size}
use Rattle.joins.proofs.Step.{after_kept}
use Rattle.joins.proofs.Allowed.{Open, end_stop, end_go, end_in, head_in, Held, held}
use Rattle.joins.proofs.Ruled.{open_allowed, allowed_open}
use Rattle.joins.proofs.Runs.{all_allowed, Reached, reached, goes_on}
use Rattle.joins.proofs.Rounds.{all_largest}
use Rattle.joins.proofs.Walks.{mirror_below}
use Rattle.joins.proofs.Storing.{stored, stored_row, stored_records}
use Rattle.joins.proofs.Claims.{joins_only}

-- what a run allows, by the test
module _ {n : ℕ} {w : ℕ → ℕ → ℕ} {js : List Join} (r : Run (Chosen n w) js) where
  made : Run (Allowed n) js
  made = all_allowed (all_largest r)

  R : Reached n w js
  R = reached (all_largest r)

  by_test : (a b : ℕ) → Allowed n js a b → Open n js a b
  by_test = allowed_open made R.state

  by_rule : (a b : ℕ) → a < 2 * n → b < 2 * n → Open n js a b → Allowed n js a b
  by_rule = open_allowed made R.state

-- What is allowed after a join was allowed before it.
module _ (a b : ℕ) (js : List Join) (open-a : after_in a js ≡ 0) (open-b : after_in (mirror b) js ≡ 0) where
  -- what is open was open,
  was_open : (f : ℕ) → after_in f (join_both a b js) ≡ 0 → after_in f js ≡ 0
  was_open f e = go (after_in f js) refl
    where
      go : (x : ℕ) → after_in f js ≡ x → after_in f js ≡ 0
      go zero z = z
      go (suc g) z = absurd (omega (arith, after_kept a b js open-a open-b f g z))

  -- and a walk that ended at an open face still does
  still_ends : (m f c : ℕ) → after_in c (join_both a b js) ≡ 0 → end_from_lem m f js ≡ c → end_from_lem m f (join_both a b js) ≡ c
  still_ends zero f c e d = d
  still_ends (suc m) f c e d = go (after_in f js) refl (still_ends m)
    where
      go : (x : ℕ) → after_in f js ≡ x
          → ((f c : ℕ) → after_in c (join_both a b js) ≡ 0 → end_from_lem m f js ≡ c → end_from_lem m f (join_both a b js) ≡ c)
          → end_from_lem (suc m) f (join_both a b js) ≡ c
      go zero z ih =
          let q : f ≡ c = sym (end_stop m f js z) ∙ d in
          end_stop m f (join_both a b js) (ap (λ (x : ℕ). after_in x (join_both a b js)) q ∙ e) ∙ q
      go (suc g) z ih =
          end_go m f g (join_both a b js) (after_kept a b js open-a open-b f g z)
          ∙ ih g c e (sym (end_go m f g js z) ∙ d)

  open_before : (n c d : ℕ) → Open n (join_both a b js) c d → Open n js c d
  open_before n c d o =
      record {
        ends = was_open c o.ends;
        begins = was_open (mirror d) o.begins;
        unclosed = λ e. o.unclosed (still_ends (2 * n) d c o.ends e);
        unmirrored = o.unmirrored;
      }

-- a pass, step by step
module _ {n : ℕ} {w : ℕ → ℕ → ℕ} where
  -- before the largest overlap
  pub pass_start : {o : ℕ} → ((c d : ℕ) → c < 2 * n → d < 2 * n → w c d < o) → Passed n w [] o (2 * n)
  pass_start h =
      record {
        run = start;
        larger = λ c d A. omega (arith, h c d A.faces.0 A.faces.1);
        lower = λ c d A e. absurd (omega (arith, h c d A.faces.0 A.faces.1));
      }

  module _ {js : List Join} {o a : ℕ} (P : Passed n w js o a) where
    pub pass_skip : ((d : ℕ) → Allowed n js a d → w a d ≡ o → ⊥) → Passed n w js o (a + 1)
    pass_skip none = record { run = P.run; larger = P.larger; lower = later }
      where
        later : (c d : ℕ) → Allowed n js c d → w c d ≡ o → a + 1 ≤ c
        later c d A e =
            let l = P.lower c d A e in
            let u : c ≢ a = λ q. none d (subst (λ (f : ℕ). Allowed n js f d) q A) (ap (λ (f : ℕ). w f d) (sym q) ∙ e) in
            omega arith

  module _ {js : List Join} {o a b : ℕ} (P : Passed n w js o a) (A : Allowed n js a b) (as_large : w a b ≡ o)
      (lowest : (d : ℕ) → Allowed n js a d → w a d ≡ o → b ≤ d) where
    chosen : Chosen n w js a b
    chosen =
        record {
          largest = record { allowed = A; most = λ c d B. subst (λ (k : ℕ). w c d ≤ k) (sym as_large) (P.larger c d B) };
          lowest_a = λ c d B e. P.lower c d B (e ∙ as_large);
          lowest_b = λ d B e. lowest d B (e ∙ as_large);
        }

    run : Run (Chosen n w) (join_both a b js)
    run = round P.run chosen

    before : (c d : ℕ) → Allowed n (join_both a b js) c d → Allowed n js c d
    before c d B =
        let was = by_test P.run a b A in
        let still = open_before a b js was.ends was.begins n c d (by_test run c d B) in
        by_rule P.run c d B.faces.0 B.faces.1 still

    none_from : (d : ℕ) → Allowed n (join_both a b js) a d → ⊥
    none_from d B =
        let e = (by_test run a d B).ends in
        omega (arith, after_yes a a b (join (mirror b) (mirror a) ∷ js) refl)

    pub pass_make : Passed n w (join_both a b js) o (a + 1)
    pass_make =
        let there : Passed n w (join_both a b js) o a = record {
          run = run;
          larger = λ c d B. P.larger c d (before c d B);
          lower = λ c d B e. P.lower c d (before c d B) e;
        } in
        pass_skip there (λ d B e. none_from d B)

  -- at the end nothing is allowed, so two mirrored pieces remain
  module _ {js : List Join} (P : Passed n w js 0 (2 * n)) where
    none_left : (c d : ℕ) → Allowed n js c d → ⊥
    none_left c d A =
        let z : w c d ≡ 0 = omega (arith, P.larger c d A) in
        omega (arith, P.lower c d A z, A.faces.0)

    pub pass_end : js ≡ layout_of n w
    pass_end = go (goes_on (made P.run))
      where
        go : Remains n js ⊎ Some (Allowed n) js → js ≡ layout_of n w
        go (inl e) = joins_only (record { rounds = P.run; remains = e })
        go (inr s) = absurd (none_left s.a s.b s.picked)

-- By the row: from a face that ends a piece, what the row lets it join is what is allowed.
-- The end of the piece that f begins, mirrored, begins the piece that f's mirror ends.
end_back : {n : ℕ} {js : List Join} {Q : List (List ℕ)} → State n js Q → (f g : ℕ) → f < 2 * n
    → after_in (mirror f) js ≡ 0 → end_from_lem (2 * n) f js ≡ g → end_from_lem (2 * n) (mirror g) js ≡ mirror f
end_back {n} {js} {Q} i f g l e d =
    end_in js (2 * n) (flip p) (mirror g) F.pieces.0.linked F.pieces.0.ends (omega (arith, state_size F)) g_in
    ∙ last_flip p P.some
    ∙ ap mirror (head_in js f p P e H.holds)
  where
    H : Held f Q
    H = held f Q (omega (arith, state_all i (f / 2) (omega arith)))

    p : List ℕ
    p = H.piece

    j : State n js (p ∷ H.rest)
    j = state_arr i H.first

    P : Piece js p
    P = j.pieces.0

    turned_first_lem : Arr (p ∷ H.rest) (flip p ∷ H.rest)
    turned_first_lem = record { sums = λ v e. omega (arith, e p) }

    F : State n js (flip p ∷ H.rest)
    F = state_arr j turned_first_lem

    ends_g : last_of p ≡ g
    ends_g = sym (end_in js (2 * n) p f P.linked P.ends (omega (arith, state_size j)) H.holds) ∙ d

    g_in : In (mirror g) (flip p)
    g_in =
        in_flip (mirror g) p (subst (λ (x : ℕ). In x p) (ends_g ∙ sym (mirror-mirror g)) (in_last p P.some))

module _ {n : ℕ} {w : ℕ → ℕ → ℕ} (after : List ℕ) {js : List Join} {a head : ℕ} (r : Run (Chosen n w) js)
    (same : Records n after js) (la : a < 2 * n) (open-a : get_or after a 0 ≡ 0)
    (is_head : head ≡ mirror (end_from_lem (2 * n) (mirror a) js)) where
  ends : after_in a js ≡ 0
  ends = sym (same a la) ∙ open-a

  pub joinable_allowed : (b : ℕ) → Joinable n after a head b → Allowed n js a b
  joinable_allowed b h =
      let begins = sym (same (mirror b) (mirror_below n b h.within)) ∙ h.begins in
      by_rule r a b la h.within
      (record { ends = ends; begins = begins; unclosed = λ e. h.unclosed (heads begins e); unmirrored = h.unmirrored })
    where
      heads : after_in (mirror b) js ≡ 0 → end_from_lem (2 * n) b js ≡ a → b ≡ head
      heads begins e =
          sym (mirror-mirror b)
          ∙ ap mirror (sym (end_back (R r).state b a h.within begins e))
          ∙ sym is_head

  pub allowed_joinable : (b : ℕ) → Allowed n js a b → Joinable n after a head b
  allowed_joinable b A =
      let o = by_test r a b A in
      record {
        within = A.faces.1;
        begins = same (mirror b) (mirror_below n b A.faces.1) ∙ o.begins;
        unclosed = λ e. o.unclosed (ap (λ (x : ℕ). end_from_lem (2 * n) x js) (e ∙ is_head) ∙ head_ends);
        unmirrored = o.unmirrored;
      }
    where
      head_ends : end_from_lem (2 * n) (mirror (end_from_lem (2 * n) (mirror a) js)) js ≡ a
      head_ends =
          let begins = ap (λ (x : ℕ). after_in x js) (mirror-mirror a) ∙ ends in
          end_back (R r).state (mirror a) (end_from_lem (2 * n) (mirror a) js) (mirror_below n a la) begins refl
          ∙ mirror-mirror a

-- a pass over a row
module _ {n : ℕ} {w : ℕ → ℕ → ℕ} {after : List ℕ} where
  pub row_start : {o : ℕ} → Unjoined n after → ((c d : ℕ) → c < 2 * n → d < 2 * n → w c d < o)
      → PassedRow n w after o (2 * n)
  row_start u h = record { joins = []; row = u.row; records = u.records; passed = pass_start h }

  pub row_end : {o : ℕ} → PassedRow n w after o (2 * n) → o ≡ 0 → Laid n w after
  row_end P z =
      let e = pass_end (subst (λ (k : ℕ). Passed n w P.joins k (2 * n)) z P.passed) in
      record { row = P.row; records = subst (Records n after) e P.records }

  module _ {o a : ℕ} (P : PassedRow n w after o a) (la : a < 2 * n) where
    skip : ((d : ℕ) → Allowed n P.joins a d → w a d ≡ o → ⊥) → PassedRow n w after o (a + 1)
    skip none = record { joins = P.joins; row = P.row; records = P.records; passed = pass_skip P.passed none }

    -- a face that has one after it ends no piece
    pub row_used : get_or after a 0 ≢ 0 → PassedRow n w after o (a + 1)
    row_used d = skip (λ b A e. d (P.records a la ∙ (by_test P.passed.run a b A).ends))

    module _ {m e head : ℕ} (open-a : get_or after a 0 ≡ 0) (m-is : m ≡ mirror a) (at : EndsAt n after m e)
        (head_is : head ≡ mirror e) where
      is_head : head ≡ mirror (end_from_lem (2 * n) (mirror a) P.joins)
      is_head =
          head_is
          ∙ ap mirror (at.end P.joins P.records ∙ ap (λ (x : ℕ). end_from_lem (2 * n) x P.joins) m-is)

      allow : (b : ℕ) → Joinable n after a head b → Allowed n P.joins a b
      allow = joinable_allowed after P.passed.run P.records la open-a is_head

      can : (b : ℕ) → Allowed n P.joins a b → Joinable n after a head b
      can = allowed_joinable after P.passed.run P.records la open-a is_head

      pub row_none : ((d : ℕ) → Joinable n after a head d → w a d ≡ o → ⊥) → PassedRow n w after o (a + 1)
      row_none none = skip (λ d A q. none d (can d A) q)

      pub row_made : {b : ℕ} {new : List ℕ} → Joinable n after a head b → o ≤ w a b
          → ((d : ℕ) → Joinable n after a head d → w a d ≡ o → b ≤ d) → new ≡ stored after a b
          → PassedRow n w new o (a + 1)
      row_made {b} j large lowest made =
          let A = allow b j in
          let as_large : w a b ≡ o = omega (arith, P.passed.larger a b A) in
          rw made
          (record {
            joins = join_both a b P.joins;
            row = stored_row P.row la j.within;
            records = stored_records P.row la j.within P.joins P.records;
            passed = pass_make P.passed A as_large (λ d B q. lowest d (can d B) q);
          })
