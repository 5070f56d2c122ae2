-- A rival ribbon is no shorter than some order of the codes makes it. Where no code stands in another, the places at
-- which they stand on the ribbon go up by their starts and by their ends alike, and neighbours share what is common
-- to both on the ribbon, at least.
use mathlib.Core.Path.{◌≡◌, refl, sym, ap, ◌∙◌}
use mathlib.Core.Logic.{◌⊎◌, inl, inr, ◌≢◌}
use mathlib.Core.List.{List, [], ◌∷◌, ◌++◌, map}
use Prim.Native.Nat.{ℕ, zero, suc, ◌+◌, ◌*◌, ◌/◌, ◌≤◌, ◌<◌}
use native.Mathlib.Omega.{arith}
use native.Mathlib.Decide.{dec_le}
use lib.ListN.{length}
use Rattle.words.specs.Lists.{Each}
use Rattle.words.specs.Turn.{Turning}
use Rattle.words.specs.Stand.{Stands, StandsSomeWay}
use Rattle.words.proofs.Lists.{each_in, each_put, each_map}
use Rattle.words.proofs.Standing.{stands_length, stands_inside}
use Rattle.words.proofs.Overlaps.{stands_overlap}
use Rattle.lists.specs.Runs.{total, lengths}
use Rattle.joins.specs.Faces.{mirror}
use Rattle.joins.proofs.Sums.{sum, sum-turned}
use Rattle.joins.proofs.Mirrors.{mirror_half}
use Rattle.joins.proofs.Arrange.{Arr, arr_same, Way, arr_put}
use Rattle.joins.proofs.Greedy.{alone, alone_sum}
use Rattle.joins.proofs.State.{singles}
use Rattle.greedy.specs.Dropping.{code_at}
use Rattle.greedy.specs.Reading.{face_of, saved_along}
use Rattle.greedy.specs.Rules.{AllStand}
use Rattle.greedy.proofs.Keeping.{Apart, code_in_lem}
use Rattle.greedy.proofs.Faces.{code_of, face_even, face_mirror, length-mirror, face_stands, in_face}
use Rattle.greedy.proofs.Reading.{face_length, singles_total}

-- an order of the codes, each by one of its faces, that makes no longer ribbon than s
pub record Order (turn : List ℕ → List ℕ) (ks : List (List ℕ)) (s : List ℕ) : Type 0 where
  pub order : List ℕ
  pub arranged : Arr (singles 0 (length ks)) (alone order)
  pub bound : total (lengths ks) ≤ length s + saved_along turn ks order

module _ {turn : List ℕ → List ℕ} (t : Turning turn) (ks : List (List ℕ)) (s : List ℕ) where
  -- a face where it stands on the ribbon
  record Spot : Type 0 where
    face : ℕ
    stands : Stands (face_of turn ks face) s

  abbrev code : Spot → ℕ
  code x = x.face / 2

  abbrev start : Spot → ℕ
  start x = length x.stands.before

  abbrev end : Spot → ℕ
  end x = start x + length (face_of turn ks x.face)

  abbrev faces : List Spot → List ℕ
  faces L = map (λ (x : Spot). x.face) L

  -- starts and ends go up, from a and b on
  abbrev Chain : ℕ → ℕ → List Spot → Type 0
  Chain a b [] = Unit {0}
  Chain a b (x ∷ L) = (a ≤ start x) × (b ≤ end x) × Chain (start x) (end x) L

  chain_length : (x : Spot) (L : List Spot) → Chain (start x) (end x) L
      → start x + sum (face_length turn ks) (faces (x ∷ L)) ≤ length s + saved_along turn ks (faces (x ∷ L))
  chain_length x [] c = omega (arith, stands_length x.stands)
  chain_length x (y ∷ L) c =
      omega (arith, stands_overlap x.stands y.stands c.0 c.1, chain_length y L c.2)

  -- of two codes apart, one comes first
  abbrev First : Spot → Spot → Type 0
  First x y = (start x ≤ start y) × (end x ≤ end y)

  inside : (x y : Spot) → Stands (face_of turn ks x.face) (face_of turn ks y.face)
      → StandsSomeWay turn (code_of t ks x.face) (code_of t ks y.face)
  inside x y h = in_face t ks y.face (face_stands t ks x.face h)

  module _ (apart : Apart (StandsSomeWay turn) ks) where
    side : (x y : Spot) → code x < length ks → code y < length ks → code x ≢ code y → First x y ⊎ First y x
    side x y a b n = go (dec_le (start x) (start y)) (dec_le (end x) (end y))
      where
        go : Dec (start x ≤ start y) → Dec (end x ≤ end y) → First x y ⊎ First y x
        go (yes p) (yes q) = inl (p, q)
        go (no p) (no q) = inr (omega arith, omega arith)
        go (yes p) (no q) =
            let h = stands_inside x.stands y.stands p (omega arith) in
            absurd (n (sym (apart (code y) (code x) b a (inside y x h))))
        go (no p) (yes q) =
            let h = stands_inside y.stands x.stands (omega arith) q in
            absurd (n (apart (code x) (code y) a b (inside x y h)))

    -- x put in at its place in a sorted list
    record Put (x : Spot) (a b : ℕ) (L : List Spot) : Type 0 where
      fore : List Spot
      after : List Spot
      parts : L ≡ fore ++ after
      chain : Chain a b (fore ++ (x ∷ after))

    -- codes from number k on
    abbrev From : ℕ → List Spot → Type 0
    From k L = Each (λ (y : Spot). (k ≤ code y) × (code y < length ks)) L

    insert : (x : Spot) (k : ℕ) → code x < k → code x < length ks → (a b : ℕ) → a ≤ start x → b ≤ end x
        → (L : List Spot) → Chain a b L → From k L → Put x a b L
    insert x k n m a b p q [] c h = record { fore = []; after = []; parts = refl; chain = (p, q, tt) }
    insert x k n m a b p q (y ∷ L) c h =
        go (side x y m h.0.1 (omega (arith, h.0.0))) (λ u v. insert x k n m (start y) (end y) u v L c.2 h.1)
      where
        go : First x y ⊎ First y x → (start y ≤ start x → end y ≤ end x → Put x (start y) (end y) L)
            → Put x a b (y ∷ L)
        go (inl f) later = record { fore = []; after = y ∷ L; parts = refl; chain = (p, q, (f.0, f.1, c.2)) }
        go (inr f) later =
            let r = later f.0 f.1 in
            record {
              fore = y ∷ r.fore;
              after = r.after;
              parts = ap (λ (l : List Spot). y ∷ l) r.parts;
              chain = (c.0, c.1, r.chain);
            }

    alone_append : (X Y : List Spot) → alone (faces (X ++ Y)) ≡ alone (faces X) ++ alone (faces Y)
    alone_append [] Y = refl
    alone_append (x ∷ X) Y = ap (λ (l : List (List ℕ)). (x.face ∷ []) ∷ l) (alone_append X Y)

    -- the n codes from number k on, sorted by their places
    record Sorted (k n : ℕ) : Type 0 where
      spots : List Spot
      arranged : Arr (singles k n) (alone (faces spots))
      chain : Chain 0 0 spots
      from : From k spots

    sorted_add : (k n : ℕ) (x : Spot) → Way (x.face ∷ []) ((2 * k) ∷ []) → code x ≡ k → k < length ks
        → (r : Sorted (suc k) n) → Put x 0 0 r.spots → Sorted k (suc n)
    sorted_add k n x o e l r u =
        let X = u.fore in
        let Y = u.after in
        let a = rw (u.parts, alone_append X Y) at r.arranged in
        let f : From (suc k) (X ++ Y) = rw u.parts at r.from in
        let f' : From k (X ++ Y) = each_map _ _ (λ y h. (omega (arith, h.0), h.1)) (X ++ Y) f in
        record {
          spots = X ++ (x ∷ Y);
          arranged = rw (alone_append X (x ∷ Y)) (arr_put (alone (faces X)) (alone (faces Y)) o a);
          chain = u.chain;
          from = each_put _ X x Y (omega arith, omega arith) f';
        }

    sorted : (stand : AllStand turn ks s) (n k : ℕ) → k + n ≡ length ks → Sorted k n
    sorted stand zero k e = record { spots = []; arranged = arr_same []; chain = tt; from = tt }
    sorted stand (suc n) k e =
        go (each_in _ ks (code_at ks k) stand (code_in_lem ks k (omega arith))) (sorted stand n (suc k) (omega arith))
      where
        with_spot : (x : Spot) → Way (x.face ∷ []) ((2 * k) ∷ []) → code x ≡ k → Sorted (suc k) n → Sorted k (suc n)
        with_spot x o c r =
            let low : code x < length ks = omega arith in
            let new : code x < suc k = omega arith in
            let u = insert x (suc k) new low 0 0 (omega arith) (omega arith) r.spots r.chain r.from in
            sorted_add k n x o c (omega arith) r u

        given : face_of turn ks (2 * k) ≡ code_at ks k
        given = face_even t ks k

        other : face_of turn ks (mirror (2 * k)) ≡ turn (code_at ks k)
        other = face_mirror t ks (2 * k) ∙ ap turn given

        go : Stands (code_at ks k) s ⊎ Stands (turn (code_at ks k)) s → Sorted (suc k) n → Sorted k (suc n)
        go (inl h) = with_spot (record { face = 2 * k; stands = rw given h }) (inl refl) (omega arith)
        go (inr h) =
            let e : mirror (2 * k) / 2 ≡ k = omega (arith, mirror_half (2 * k)) in
            with_spot (record { face = mirror (2 * k); stands = rw other h }) (inr refl) e

    order_of_lem : Sorted 0 (length ks) → Order turn ks s
    order_of_lem r = record { order = faces r.spots; arranged = r.arranged; bound = go r.spots r.chain whole }
      where
        whole : sum (face_length turn ks) (faces r.spots) ≡ total (lengths ks)
        whole =
            let u = face_length turn ks in
            sym (alone_sum u (faces r.spots))
            ∙ sym (r.arranged.sums (sum u) (sum-turned u mirror (length-mirror t ks)))
            ∙ singles_total t ks

        go : (L : List Spot) → Chain 0 0 L → sum (face_length turn ks) (faces L) ≡ total (lengths ks)
            → total (lengths ks) ≤ length s + saved_along turn ks (faces L)
        go [] c e = omega arith
        go (x ∷ L) c e = omega (arith, chain_length x L c.2)

    pub rival : AllStand turn ks s → Order turn ks s
    rival stand = order_of_lem (sorted stand (length ks) 0 (omega arith))
