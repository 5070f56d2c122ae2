-- A lent record tells its number and its way with the start, and nothing else: two that tell the same are the same. So the
-- records of a list's places, where each code has one, are those that the claims ask for, and no others.
use mathlib.Core.Path.{◌≡◌, refl, sym, ap, ap₂, ◌∙◌}
use mathlib.Core.Bool.{true, true≢false}
use mathlib.Core.List.{List, [], ◌∷◌}
use Prim.Native.Nat.{ℕ, zero, suc, ◌+◌, ◌<◌}
use native.Mathlib.Omega.{arith}
use lib.ListN.{length, get_or}
use Rattle.words.specs.Turn.{turned}
use Rattle.words.specs.Place.{Place, given_at, turned_at, either_at, nowhere, place_of, found}
use Rattle.greedy.specs.Dropping.{code_at}
use Rattle.checking.specs.Answers.{PlaceRecord, records_from}
use Rattle.places.specs.declared.Place as declared
use Rattle.finding.specs.declared.Way.{Way}
use Rattle.finding.specs.declared.Way.TheVariants.{Given, Turned, Either}
use Rattle.places.specs.Calls.{way_at, record_of_lem, records_of, way_of, place_for, places_from}

-- what two records tell alike they hold alike
back : (w : Way ℕ) → way_of (way_at w) ≡ w
back (Given i) = refl
back (Turned i) = refl
back (Either i) = refl

pub record_one : {p q : declared.Place} → record_of_lem p ≡ record_of_lem q → p ≡ q
record_one {p} {q} e =
    ap₂ {C = declared.Place} (λ (n : ℕ) (w : Way ℕ). record { code = n; way = w }) (ap (λ (r : PlaceRecord). r.code) e)
    (sym (back p.way) ∙ ap (λ (r : PlaceRecord). way_of r.place) e ∙ back q.way)

pub records_one : (ps qs : List declared.Place) → records_of ps ≡ records_of qs → ps ≡ qs
records_one [] [] e = refl
records_one [] (q ∷ qs) e = absurd (omega (arith, ap length e))
records_one (p ∷ ps) [] e = absurd (omega (arith, ap length e))
records_one (p ∷ ps) (q ∷ qs) e =
    let one : record_of_lem p ≡ record_of_lem q = cc in
    let more : records_of ps ≡ records_of qs = cc in
    ap₂ (λ (r : declared.Place) (rs : List declared.Place). r ∷ rs) (record_one one) (records_one ps qs more)

-- the record of a place tells the place
pub way_back : (p : Place) → found p ≡ true → way_at (way_of p) ≡ p
way_back (given_at i) e = refl
way_back (turned_at i) e = refl
way_back (either_at i) e = refl
way_back nowhere e = absurd (true≢false (sym e))

pub place_told : (i : ℕ) (c row : List ℕ) → found (place_of turned 0 c row) ≡ true
    → record_of_lem (place_for i c row) ≡ record { code = i; place = place_of turned 0 c row }
place_told i c row e = ap {B = PlaceRecord} (λ (p : Place). record { code = i; place = p }) (way_back (place_of turned 0 c row) e)

-- all of them: so many, each the record of its code, and what they tell
pub places_count : (k : ℕ) (cs : List (List ℕ)) (row : List ℕ) → length (places_from k cs row) ≡ length cs
places_count k [] row = refl
places_count k (c ∷ cs) row = ap suc (places_count (suc k) cs row)

places_nth : (k : ℕ) (cs : List (List ℕ)) (row : List ℕ) (i : ℕ) (d : declared.Place) {n : ℕ} → i < length cs → n ≡ k + i
    → get_or (places_from k cs row) i d ≡ place_for n (code_at cs i) row
places_nth k [] row i d h e = absurd (omega arith)
places_nth k (c ∷ cs) row zero d {n} h e =
    let z : k ≡ n = omega arith in ap {B = declared.Place} (λ (m : ℕ). place_for m c row) z
places_nth k (c ∷ cs) row (suc i) d h e = places_nth (suc k) cs row i d (omega arith) (omega arith)

pub nth_place_lem : (cs : List (List ℕ)) (row : List ℕ) (i : ℕ) (d : declared.Place) → i < length cs
    → get_or (places_from 0 cs row) i d ≡ place_for i (code_at cs i) row
nth_place_lem cs row i d h = places_nth 0 cs row i d h (omega arith)

pub places_told : (k : ℕ) (cs : List (List ℕ)) (row : List ℕ)
    → ((i : ℕ) → i < length cs → found (place_of turned 0 (code_at cs i) row) ≡ true)
    → records_of (places_from k cs row) ≡ records_from k cs row
places_told k [] row h = refl
places_told k (c ∷ cs) row h =
    ap₂ (λ (r : PlaceRecord) (rs : List PlaceRecord). r ∷ rs) (place_told k c row (h 0 (omega arith)))
    (places_told (suc k) cs row (λ i l. h (suc i) (omega arith)))
