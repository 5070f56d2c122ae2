-- Demands 2 and 3, told in order, of whatever meets the rules, whoever settles the ties.
-- Codes that stand in others are dropped; each kept one has two faces. The rounds join pieces of faces, each time with a
-- largest overlap, till one mirrored pair is left; the ribbon is read from it.
use mathlib.Core.Path.{◌≡◌, refl, ap, subst, ◌∙◌}
use mathlib.Core.Logic.{◌⊎◌, inl, inr}
use mathlib.Core.Bool.{Bool, true, false}
use mathlib.Core.List.{List, [], ◌∷◌}
use Prim.Native.Nat.{ℕ, ◌+◌, ◌*◌, ◌/◌, ◌%◌, ◌≤◌, ◌<◌}
use native.Mathlib.Omega.{arith}
use lib.Dec.{eqb}
use lib.ListN.{length}
use Rattle.words.specs.Tests.{pick}
use Rattle.words.specs.Lists.{In}
use Rattle.words.specs.Turn.{Turning}
use Rattle.words.specs.Stand.{StandsSomeWay}
use Rattle.words.proofs.Lists.{in_each}
use Rattle.words.proofs.Standing.{is_some_way}
use Rattle.lists.specs.Runs.{total, lengths}
use Rattle.joins.specs.Faces.{mirror, Join}
use Rattle.joins.specs.Rules.{Largest, Joins}
use Rattle.joins.proofs.Sums.{sum}
use Rattle.joins.proofs.Mirrors.{mirror_half}
use Rattle.joins.proofs.Greedy.{alone_along}
use Rattle.joins.proofs.Runs.{last_sum, last_holds, last_twice}
use Rattle.greedy.specs.Dropping.{code_at, Keeps}
use Rattle.greedy.specs.Reading.{shared, read_piece}
use Rattle.greedy.specs.Rules.{Reads, Lays, AllStand, AtMostTwice}
use Rattle.greedy.proofs.Dropping.{keeps_one}
use Rattle.greedy.proofs.Keeping.{holding, in_code, keeps_apart, keeps_stand, stand_keeps}
use Rattle.greedy.proofs.Faces.{length-mirror, face_stands, shared_even, shared_monge}
use Rattle.greedy.proofs.Reading.{face_length, read_length, face_in, singles_total}
use Rattle.greedy.proofs.Rival.{Order, rival}

module _ {turn : List ℕ → List ℕ} (t : Turning turn) where
  -- A run of largest joins over at least one kept code, and the ribbon read from it.
  module _ {ks : List (List ℕ)} {js : List Join} {ribbon : List ℕ} {saved : ℕ} (some : 1 ≤ length ks)
      (joins : Joins (Largest (length ks) (shared turn ks)) (length ks) js) (reads : Reads turn ks js ribbon saved) where
    abbrev p : List ℕ
    p = reads.order

    -- Each kept code has a face in the piece that is read, and what is read holds its faces; so the kept codes stand.
    kept_stands : (k : ℕ) → k < length ks → StandsSomeWay turn (code_at ks k) ribbon
    kept_stands k l = go (last_holds some joins p reads.piece 0 (omega arith) reads.holds (2 * k) (omega arith))
      where
        by_face : (f : ℕ) → f / 2 ≡ k → In f p → StandsSomeWay turn (code_at ks k) ribbon
        by_face f e i =
            let h = face_stands t ks f (face_in turn ks f p i) in
            rw reads.read (subst (λ (j : ℕ). StandsSomeWay turn (code_at ks j) (read_piece turn ks p)) e h)

        go : In (2 * k) p ⊎ In (mirror (2 * k)) p → StandsSomeWay turn (code_at ks k) ribbon
        go (inl i) = by_face (2 * k) (omega arith) i
        go (inr i) = by_face (mirror (2 * k)) (omega (arith, mirror_half (2 * k))) i

    -- It has one face of each kept code, so its length and what it saves make up their lengths.
    lengths_add : length ribbon + saved ≡ total (lengths ks)
    lengths_add =
        let u = face_length turn ks in
        omega (
          arith,
          ap length reads.read,
          reads.sum,
          read_length turn ks p,
          last_sum some joins p reads.piece 0 (omega arith) reads.holds u (length-mirror t ks),
          singles_total t ks,
        )

    -- No order of the kept codes shares more than twice what it does, since it is got by a greedy run.
    order_bound : {row : List ℕ} → Order turn ks row → total (lengths ks) ≤ length row + 2 * saved
    order_bound o =
        omega (
          arith,
          o.bound,
          alone_along (shared turn ks) o.order,
          last_twice some joins p reads.piece 0 (omega arith) reads.holds
              (shared_even t ks) (shared_monge t ks) _ o.arranged,
          reads.sum,
        )

  -- An empty list has empty faces.
  no_bands : (p : List ℕ) → sum (face_length turn []) p ≡ 0
  no_bands [] = refl
  no_bands (f ∷ p) = omega (arith, no_bands p, length-pick (eqb (f % 2) 0))
    where
      length-pick : (b : Bool) → length (pick b [] (turn [])) ≡ 0
      length-pick true = refl
      length-pick false = t.as_long []

  reads_add : (ks : List (List ℕ)) {js : List Join} {ribbon : List ℕ} {saved : ℕ}
      → Joins (Largest (length ks) (shared turn ks)) (length ks) js → Reads turn ks js ribbon saved
      → length ribbon + saved ≡ total (lengths ks)
  reads_add [] j r =
      omega (arith, ap length r.read, r.sum, read_length turn [] r.order, no_bands r.order)
  reads_add (k ∷ ks) j r = lengths_add (omega arith) j r

  bound : (ks : List (List ℕ)) {js : List Join} {ribbon row : List ℕ} {saved : ℕ}
      → Joins (Largest (length ks) (shared turn ks)) (length ks) js → Reads turn ks js ribbon saved
      → Order turn ks row → total (lengths ks) ≤ length row + 2 * saved
  bound [] j r o = omega arith
  bound (k ∷ ks) j r o = order_bound (omega arith) j r o

  module _ {cs : List (List ℕ)} {ribbon : List ℕ} {saved : ℕ} (lays : Lays Largest turn cs ribbon saved) where
    -- Where the kept codes stand, the dropped ones do.
    pub lays_stand : AllStand turn cs ribbon
    lays_stand =
        keeps_stand (holding t) (is_some_way turn) cs lays.ks lays.keeps ribbon
        (in_each (λ c. StandsSomeWay turn c ribbon) lays.ks each)
      where
        each : (c : List ℕ) → In c lays.ks → StandsSomeWay turn c ribbon
        each c x =
            let r = in_code lays.ks c x in
            rw r.2 (kept_stands (omega (arith, r.1)) lays.joins lays.reads r.0 r.1)

    pub lays_add : (ks : List (List ℕ)) → Keeps (StandsSomeWay turn) cs ks
        → length ribbon + saved ≡ total (lengths ks)
    lays_add ks k =
        reads_add lays.ks lays.joins lays.reads
        ∙ ap (λ (l : List (List ℕ)). total (lengths l)) (keeps_one lays.keeps k)

    -- Another row on which all codes stand is no shorter than some order of the kept codes makes it, since none of these
    -- stands in another.
    pub lays_twice : AtMostTwice turn cs saved
    lays_twice ks row k on =
        let on' = stand_keeps (λ c. StandsSomeWay turn c row) lays.keeps on in
        let o = rival t lays.ks row (keeps_apart (holding t) lays.keeps) on' in
        let b = bound lays.ks lays.joins lays.reads o in
        subst (λ (l : List (List ℕ)). total (lengths l) ≤ length row + 2 * saved) (keeps_one lays.keeps k) b
