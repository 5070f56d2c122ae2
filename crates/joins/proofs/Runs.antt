-- Whoever settles the ties: a run that takes a largest allowed join each round, till two mirrored pieces remain, is a
-- greedy run. So what remains has a face of each code, and no arrangement of the codes weighs more than twice as much.
use mathlib.Core.Path.{◌≡◌, refl, sym, ap, ap₂, subst, ◌∙◌}
use mathlib.Core.Logic.{◌⊎◌, inl, inr}
use mathlib.Core.List.{List, [], ◌∷◌, ◌++◌}
use Prim.Native.Nat.{ℕ, zero, suc, ◌+◌, ◌*◌, ◌/◌, ◌≤◌, ◌<◌}
use native.Mathlib.Omega.{arith}
use lib.ListN.{length}
use Rattle.words.specs.Lists.{In}
use Rattle.joins.specs.Faces.{mirror, Join, join_both, head_of, last_of}
use Rattle.joins.specs.Rules.{IsPiece, Allowed, Largest, Run, start, round, Remains, Joins, along}
use Rattle.joins.specs.Ends.{Some}
use Rattle.joins.proofs.Sums.{sum}
use Rattle.joins.proofs.Pieces.{flip, flip_flip, head_flip, in_head, in_last, in_flip, times_in}
use Rattle.joins.proofs.Arrange.{Arr, arr_same, arr_flip, arr_length}
use Rattle.joins.proofs.Junctions.{Even, Monge, meet, meet_some, junctions}
use Rattle.joins.proofs.Greedy.{Top, Greedy, done, step, along_flip, greedy_half}
use Rattle.joins.proofs.Links.{Piece, piece_flip}
use Rattle.joins.proofs.State.{singles, State, state_start, state_arr, state_all, state_size}
use Rattle.joins.proofs.Step.{state_step}
use Rattle.joins.proofs.Allowed.{Pair, open_pair, pair_open, pair_left, pair_right}
use Rattle.joins.proofs.Ruled.{run_map, piece_of, is_piece, same_piece, open_allowed, allowed_open}

-- the pieces that a run has reached, from one piece a code on
pub record Reached (n : ℕ) (w : ℕ → ℕ → ℕ) (js : List Join) : Type 0 where
  pub pieces : List (List ℕ)
  pub state : State n js pieces
  pub count : 2 * length pieces + length js ≡ 2 * n
  pub greedy : (r : List ℕ) → Greedy w pieces r → Greedy w (singles 0 n) r

singles_count : (k n : ℕ) → length (singles k n) ≡ n
singles_count k zero = refl
singles_count k (suc n) = ap suc (singles_count (suc k) n)

pub all_allowed : {n : ℕ} {w : ℕ → ℕ → ℕ} {js : List Join} → Run (Largest n w) js → Run (Allowed n) js
all_allowed r = run_map (λ ls a b c. c.allowed) r

module _ {n : ℕ} {w : ℕ → ℕ → ℕ} where
  -- one round more
  next : {js : List Join} {a b : ℕ} → Run (Allowed n) js → Largest n w js a b → Reached n w js
      → Reached n w (join_both a b js)
  next {js} {a} {b} r c R =
      record {
        pieces = (p ++ q) ∷ M.others;
        state = subst (λ (l : List Join). State n l ((p ++ q) ∷ M.others)) e (state_step p q S);
        count = omega (arith, R.count, arr_length M.first);
        greedy = λ x g. R.greedy x (step S.pieces.0.some S.pieces.1.0.some M.first top g);
      }
    where
      A : Allowed n js a b
      A = c.allowed

      M : Pair a b R.pieces
      M = open_pair n js R.pieces R.state a b A.faces.0 A.faces.1 (allowed_open r R.state a b A)

      p : List ℕ
      p = M.left_is

      q : List ℕ
      q = M.right_is

      S : State n js (p ∷ (q ∷ M.others))
      S = state_arr R.state M.first

      e : join_both (last_of p) (head_of q) js ≡ join_both a b js
      e = ap₂ (λ x y. join_both x y js) M.last_is M.head_is

      made : meet w p q ≡ w a b
      made = meet_some w p q S.pieces.0.some S.pieces.1.0.some ∙ ap₂ w M.last_is M.head_is

      top : Top w (meet w p q) R.pieces
      top x y Z arr =
          let k = state_arr R.state arr in
          let o = open_allowed r R.state (last_of x) (head_of y) (pair_left k) (pair_right k) (pair_open k) in
          omega (
            arith,
            c.most (last_of x) (head_of y) o,
            made,
            meet_some w x y k.pieces.0.some k.pieces.1.0.some,
          )

  pub reached : {js : List Join} → Run (Largest n w) js → Reached n w js
  reached start =
      record {
        pieces = singles 0 n;
        state = state_start n;
        count = omega (arith, singles_count 0 n);
        greedy = λ r g. g;
      }
  reached (round r c) = next (all_allowed r) c (reached r)

-- When two mirrored pieces remain, no join is left.
module _ {n : ℕ} {js : List Join} (r : Run (Allowed n) js) (e : Remains n js) where
  R : Piece js e.p
  R = piece_of r e.p e.piece

  what_remains : (p : List ℕ) (f : ℕ) → f < 2 * n → Piece js p → In f p → (p ≡ e.p) ⊎ (p ≡ flip e.p)
  what_remains p f l P x = from (e.every f l)
    where
      from : In f e.p ⊎ In (mirror f) e.p → (p ≡ e.p) ⊎ (p ≡ flip e.p)
      from (inl z) = inl (same_piece js p e.p f P R x z)
      from (inr z) = inr (same_piece js p (flip e.p) f P (piece_flip js e.p R) x (in_flip f e.p z))

  pub finished : {a b : ℕ} → Allowed n js a b → ⊥
  finished {a} {b} A = go (what_remains A.p a A.faces.0 P x) (what_remains A.q b A.faces.1 Q y)
    where
      P : Piece js A.p
      P = piece_of r A.p A.pieces.0

      Q : Piece js A.q
      Q = piece_of r A.q A.pieces.1

      x : In a A.p
      x = subst (λ (f : ℕ). In f A.p) A.ends_p (in_last A.p P.some)

      y : In b A.q
      y = subst (λ (f : ℕ). In f A.q) A.begins_q (in_head A.q Q.some)

      -- b begins the mirror of the piece that a ends, so it is a's mirror
      mirrors : A.q ≡ flip A.p → ⊥
      mirrors d =
          A.unmirrored (sym A.begins_q ∙ ap head_of d ∙ head_flip A.p P.some ∙ ap mirror A.ends_p)

      go : (A.p ≡ e.p) ⊎ (A.p ≡ flip e.p) → (A.q ≡ e.p) ⊎ (A.q ≡ flip e.p) → ⊥
      go (inl c) (inl d) = A.different (c ∙ sym d)
      go (inl c) (inr d) = mirrors (d ∙ ap flip (sym c))
      go (inr c) (inl d) = mirrors (d ∙ sym (ap flip c ∙ flip_flip e.p))
      go (inr c) (inr d) = A.different (c ∙ sym d)

-- Rounds go on: until two mirrored pieces remain, some join is allowed, if only one of overlap 0.
nothing_joined : {js : List Join} → Run (Allowed 0) js → js ≡ []
nothing_joined start = refl
nothing_joined (round r c) = absurd (omega (arith, c.faces))

pub none_left : {n : ℕ} {js : List Join} → Run (Allowed n) js → 0 ≡ n → Remains n js
none_left {n} {js} r e =
    let none : js ≡ [] = nothing_joined (subst (λ (k : ℕ). Run (Allowed k) js) (sym e) r) in
    record {
      p = 0 ∷ [];
      piece = subst (λ (l : List Join). IsPiece l (0 ∷ [])) (sym none) lone;
      every = λ f l. absurd (omega arith);
    }
  where
    lone : IsPiece [] (0 ∷ [])
    lone = record { chain = tt; starts = λ f x. x; ends = λ g x. x }

pub one_left : {n : ℕ} {js : List Join} → Run (Allowed n) js → (p : List ℕ) → State n js (p ∷ []) → Remains n js
one_left r p i =
    record {
      p = p;
      piece = is_piece r p i.pieces.0;
      every = λ f l. times_in f p (omega (arith, state_all i (f / 2) (omega arith)));
    }

-- any allowed join is a largest one where all weigh the same
pub reached_allowed : {n : ℕ} {js : List Join} → Run (Allowed n) js → Reached n (λ a b. 0) js
reached_allowed r = reached (run_map (λ ls a b c. record { allowed = c; most = λ x y d. omega arith }) r)

-- of two pieces the end of the one may be joined to the beginning of the other
pub two_join : {n : ℕ} {js : List Join} {p q : List ℕ} {Q : List (List ℕ)} → Run (Allowed n) js
    → State n js (p ∷ (q ∷ Q)) → Some (Allowed n) js
two_join {p = p} {q = q} r i =
    record {
      a = last_of p;
      b = head_of q;
      picked = open_allowed r i (last_of p) (head_of q) (pair_left i) (pair_right i) (pair_open i);
    }

pub goes_on : {n : ℕ} {js : List Join} → Run (Allowed n) js → Remains n js ⊎ Some (Allowed n) js
goes_on {n} {js} r = go M.pieces M.state
  where
    M : Reached n (λ a b. 0) js
    M = reached_allowed r

    go : (Q : List (List ℕ)) → State n js Q → Remains n js ⊎ Some (Allowed n) js
    go [] i = inl (none_left r (state_size i))
    go (p ∷ []) i = inl (one_left r p i)
    go (p ∷ (q ∷ Q)) i = inr (two_join r i)

-- So one piece is reached, and every piece of the run is that one or its flip.
record Left (n : ℕ) (w : ℕ → ℕ → ℕ) (js : List Join) : Type 0 where
  piece : List ℕ
  state : State n js (piece ∷ [])
  greedy : Greedy w (singles 0 n) piece

module _ {n : ℕ} {w : ℕ → ℕ → ℕ} {js : List Join} (some : 1 ≤ n) (j : Joins (Largest n w) n js) where
  r : Run (Allowed n) js
  r = all_allowed j.rounds

  left : Left n w js
  left = go M.pieces M.state M.greedy
    where
      M : Reached n w js
      M = reached j.rounds

      go : (Q : List (List ℕ)) → State n js Q → ((x : List ℕ) → Greedy w Q x → Greedy w (singles 0 n) x) → Left n w js
      go [] i g = absurd (omega (arith, state_size i))
      go (p ∷ []) i g = record { piece = p; state = i; greedy = g p done }
      go (p ∷ (q ∷ Q)) i g = absurd (finished r j.remains (two_join r i).picked)

  module _ (p : List ℕ) (is : IsPiece js p) (f : ℕ) (l : f < 2 * n) (x : In f p) where
    is_left : Arr (left.piece ∷ []) (p ∷ [])
    is_left = go (times_in f left.piece (omega (arith, state_all left.state (f / 2) (omega arith))))
      where
        L : Piece js left.piece
        L = left.state.pieces.0

        P : Piece js p
        P = piece_of r p is

        as_is : p ≡ left.piece → Arr (left.piece ∷ []) (p ∷ [])
        as_is e = rw e (arr_same (left.piece ∷ []))

        flipped : p ≡ flip left.piece → Arr (left.piece ∷ []) (p ∷ [])
        flipped e = rw e (arr_flip left.piece)

        go : In f left.piece ⊎ In (mirror f) left.piece → Arr (left.piece ∷ []) (p ∷ [])
        go (inl z) = as_is (same_piece js p left.piece f P L x z)
        go (inr z) =
            let F = piece_flip js left.piece L in
            flipped (same_piece js p (flip left.piece) f P F x (in_flip f left.piece z))

    last : State n js (p ∷ [])
    last = state_arr left.state is_left

    -- each code has one face in it,
    pub last_sum : (u : ℕ → ℕ) → ((g : ℕ) → u (mirror g) ≡ u g) → sum u p ≡ sum (sum u) (singles 0 n)
    last_sum u even = omega (arith, last.codes u even)

    pub last_holds : (g : ℕ) → g < 2 * n → In g p ⊎ In (mirror g) p
    last_holds g m = times_in g p (omega (arith, state_all last (g / 2) (omega arith)))

    -- and no arrangement of the codes weighs more than twice what it does
    pub last_twice : Even w → Monge w → (A : List (List ℕ)) → Arr (singles 0 n) A → junctions w A ≤ 2 * along w p
    last_twice even monge A a =
        let e = is_left.sums (along w) (along_flip w even) in
        omega (arith, greedy_half even monge left.greedy A a)
