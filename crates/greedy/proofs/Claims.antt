-- Our layout meets the rules, nothing else does, and so it has what demands 2 and 3 ask. The starred ribbons come out.
use mathlib.Core.Path.{◌≡◌, refl, sym, ap, subst, ◌∙◌}
use mathlib.Core.Logic.{inl}
use mathlib.Core.List.{List, [], ◌∷◌, map}
use Prim.Native.Nat.{ℕ, ◌+◌, ◌*◌}
use native.Mathlib.Omega.{arith}
use lib.ListN.{length}
use Rattle.words.specs.Lists.{Each}
use Rattle.words.specs.Texts.{text}
use Rattle.words.specs.Turn.{turned}
use Rattle.words.proofs.Standing.{is_some_way}
use Rattle.lists.specs.Runs.{total, lengths}
use Rattle.joins.specs.Faces.{Join}
use Rattle.joins.specs.Rules.{Chosen, Largest, Joins}
use Rattle.joins.specs.Rounds.{layout_of}
use Rattle.joins.proofs.Rounds.{all_largest, joins_ours}
use Rattle.joins.proofs.Order.{order_piece}
use Rattle.joins.proofs.Claims.{joins_one, piece_one}
use Rattle.greedy.specs.Dropping.{kept}
use Rattle.greedy.specs.Reading.{shared, read_piece, saved_along}
use Rattle.greedy.specs.Rules.{Reads, Lays, AllStand}
use Rattle.greedy.specs.Layout.{order_for, ribbon_for, saved_by}
use Rattle.greedy.specs.Laid.{EachLaid}
use Rattle.greedy.specs.Starred.{ByHand, starred, Starred}
use Rattle.greedy.proofs.Dropping.{keeps_one, keeper_ours}
use Rattle.greedy.proofs.Laying.{lays_stand, lays_add, lays_twice}

module _ (turn : List ℕ → List ℕ) where
  -- Ours meets the rules.
  reads_ours : (ks : List (List ℕ))
      → Reads turn ks (layout_of (length ks) (shared turn ks))
      (read_piece turn ks (order_for turn ks)) (saved_along turn ks (order_for turn ks))
  reads_ours [] =
      record {
        order = 0 ∷ [];
        piece = record { chain = tt; starts = λ f x. x; ends = λ g x. x };
        holds = inl refl;
        read = refl;
        sum = refl;
      }
  reads_ours (k ∷ ks) =
      let o = order_piece (length (k ∷ ks)) (shared turn (k ∷ ks)) (omega arith) in
      record { order = order_for turn (k ∷ ks); piece = o.piece; holds = o.zero_in; read = refl; sum = refl }

  pub lays_ours : (cs : List (List ℕ)) → Lays Chosen turn cs (ribbon_for turn cs) (saved_by turn cs)
  lays_ours cs =
      record {
        ks = kept turn cs;
        js = layout_of (length (kept turn cs)) (shared turn (kept turn cs));
        keeps = keeper_ours (is_some_way turn) cs;
        joins = joins_ours (length (kept turn cs)) (shared turn (kept turn cs));
        reads = reads_ours (kept turn cs);
      }

  -- They leave no freedom: one list is kept, its joins are one, and one piece of them holds face 0.
  reads_one : {ks : List (List ℕ)} {js : List Join} {r s : List ℕ} {m n : ℕ}
      → Joins (Chosen (length ks) (shared turn ks)) (length ks) js → Reads turn ks js r m → Reads turn ks js s n
      → (r ≡ s) × (m ≡ n)
  reads_one {ks} j x y =
      let e = piece_one j.rounds x.order y.order x.piece y.piece x.holds y.holds in (
        x.read ∙ ap (read_piece turn ks) e ∙ sym y.read,
        x.sum ∙ ap (saved_along turn ks) e ∙ sym y.sum,
      )

  lays_one : {cs : List (List ℕ)} {r s : List ℕ} {m n : ℕ} → Lays Chosen turn cs r m → Lays Chosen turn cs s n
      → (r ≡ s) × (m ≡ n)
  lays_one {cs} {r} {s} {m} {n} x y =
      from x.ks y.ks x.js y.js (keeps_one x.keeps y.keeps) x.joins y.joins x.reads y.reads
    where
      Js : List (List ℕ) → List Join → Type 0
      Js ks js = Joins (Chosen (length ks) (shared turn ks)) (length ks) js

      from : (ks ls : List (List ℕ)) (js is : List Join) → ks ≡ ls → Js ks js → Js ls is → Reads turn ks js r m
          → Reads turn ls is s n → (r ≡ s) × (m ≡ n)
      from ks ls js is e j i u v =
          let q = joins_one j (subst (λ (l : List (List ℕ)). Js l is) (sym e) i) in
          let w = subst (λ (l : List (List ℕ)). Reads turn l is s n) (sym e) v in
          reads_one j u (subst (λ (l : List Join). Reads turn ks l s n) (sym q) w)

  pub lays_only : {cs : List (List ℕ)} {ribbon : List ℕ} {saved : ℕ} → Lays Chosen turn cs ribbon saved
      → (ribbon ≡ ribbon_for turn cs) × (saved ≡ saved_by turn cs)
  lays_only {cs} x = lays_one x (lays_ours cs)

-- The tie rule only says which of the largest joins is taken.
pub chosen_largest : {turn : List ℕ → List ℕ} {cs : List (List ℕ)} {ribbon : List ℕ} {saved : ℕ}
    → Lays Chosen turn cs ribbon saved → Lays Largest turn cs ribbon saved
chosen_largest x =
    record {
      ks = x.ks;
      js = x.js;
      keeps = x.keeps;
      joins = record { rounds = all_largest x.joins.rounds; remains = x.joins.remains };
      reads = x.reads;
    }

pub each_laid : EachLaid
each_laid turn t cs =
    let ours = chosen_largest (lays_ours turn cs) in
    let keeps = keeper_ours (is_some_way turn) cs in
    record {
      by_rule = lays_ours turn cs;
      all_stand = lays_stand t ours;
      adds_up = lays_add t ours (kept turn cs) keeps;
      at_most_twice = lays_twice t ours;
    }

-- The ribbons by hand: the table, with what ours gives in its place, is the table.
abbrev ours : ByHand → ByHand
ours h = record { codes = h.codes; ribbon = ribbon_for turned h.codes; saved = saved_by turned h.codes }

starred_ours : map ours starred ≡ starred
unfolding turned
starred_ours = refl

pub starred_lay : Starred
starred_lay = subst (Each (λ h. Lays Chosen turned h.codes h.ribbon h.saved)) starred_ours (each starred)
  where
    each : (hs : List ByHand) → Each (λ h. Lays Chosen turned h.codes h.ribbon h.saved) (map ours hs)
    each [] = tt
    each (h ∷ hs) = (lays_ours turned h.codes, each hs)

-- The last but one of them meets demand 3's bound exactly: ABBBC has 5 bands for its codes' 9, and ours saves 2.
abbrev tight : List (List ℕ)
tight = text "ABB" ∷ text "BBC" ∷ text "BBB" ∷ []

pub bound_met : AllStand turned tight (text "ABBBC")
    × (total (lengths (kept turned tight)) ≡ length (text "ABBBC") + 2 * saved_by turned tight)
unfolding turned
bound_met = (
  (
    inl (record { before = []; after = text "BC"; parts = refl }),
    (
      inl (record { before = text "AB"; after = []; parts = refl }),
      (inl (record { before = text "A"; after = text "C"; parts = refl }), tt),
    ),
  ),
  refl,
)
