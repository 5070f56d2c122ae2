-- The tests decide the rules: each test is put together as its rule is, so the laws of deciding carry over, and refusal
-- 12's clauses are the ways in which a rule can be broken. What passes are the runs and lengths of words that keep the
-- rules, and no other.
use mathlib.Core.Path.{◌≡◌, refl, subst}
use mathlib.Core.Logic.{◌⊎◌, inl, inr}
use mathlib.Core.Bool.{Bool, ◌&&◌, not}
use mathlib.Core.List.{List, [], ◌∷◌}
use Prim.Native.Nat.{ℕ, zero, suc, ◌≤◌}
use native.Mathlib.Nat.{lt_of_not-le}
use native.Mathlib.Omega.{arith}
use lib.Dec.{leb}
use lib.ListN.{length, take, drop}
use lib.Seq.{length-take-le}
use Rattle.words.specs.Lists.{In, Each, Once}
use Rattle.words.specs.Decides.{Decides, yes, no}
use Rattle.words.proofs.Lists.{each_in, each_take, each_drop, each_append}
use Rattle.words.proofs.Deciding.{decides_one, decides_via, decides_not, decides_and, decides_or}
use Rattle.words.proofs.Deciding.{is_le, is_eq, is_same}
use Rattle.lists.specs.Runs.{codes_in, total, flat, lengths}
use Rattle.lists.specs.Rules.{Band, CodeRule, Printed, NameRule, FitList, FitNames, ChecksCodes, ChecksNames}
use Rattle.lists.specs.Rules.{FalseCodes, no_codes, too_many, no_length, too_long, other_sum, no_band}
use Rattle.lists.specs.Rules.{FalseNames, other_count, other_names_sum, no_name, used_twice}
use Rattle.lists.specs.Fit.{all, is_in, is_band, all_bands_lem, plain, name_ok_lem, all_once_lem, list_ok_lem, names_ok_lem}
use Rattle.lists.proofs.Runs.{rest_adds_up, flat_again, lengths_again, adds_up}

-- Each of a list, by a test of each.
pub all_each : {A : Type 0} {P : A → Type 0} {p : A → Bool} → ((x : A) → Decides (P x) (p x)) → (xs : List A)
    → Decides (Each P xs) (all p xs)
all_each d [] = yes tt
all_each d (x ∷ xs) = decides_and (d x) (all_each d xs)

pub each_or : {A : Type 0} {P : A → Type 0} {p : A → Bool} → ((x : A) → Decides (P x) (p x)) → (xs : List A)
    → Each P xs ⊎ ((x : A) × In x xs × (P x → ⊥))
each_or d [] = inl tt
each_or {A} {P} d (x ∷ xs) = go (d x) (each_or d xs)
  where
    go : {t : Bool} → Decides (P x) t → Each P xs ⊎ ((y : A) × In y xs × (P y → ⊥))
        → Each P (x ∷ xs) ⊎ ((y : A) × In y (x ∷ xs) × (P y → ⊥))
    go (yes h) (inl e) = inl (h, e)
    go (yes h) (inr r) = inr (r.0, inr r.1, r.2)
    go (no n) e = inr (x, inl refl, n)

-- Bands and names.
pub is_band_lem : (b : ℕ) → Decides (Band b) (is_band b)
is_band_lem b = decides_and (is_le 65 b) (is_le b 90)

pub all_bands : (s : List ℕ) → Decides (Each Band s) (all_bands_lem s)
all_bands s = all_each is_band_lem s

pub is_printed : (b : ℕ) → Decides (Printed b) (plain b)
is_printed b = decides_and (is_le 32 b) (is_le b 126)

pub is_name : (n : List ℕ) → Decides (NameRule n) (name_ok_lem n)
is_name n =
    decides_via
    (λ h. (h.0, h.1.0, h.1.1))
    (λ h. (h.0, (h.1, h.2)))
    (decides_and (is_le 1 (length n)) (decides_and (is_le (length n) 24) (all_each is_printed n)))

pub is_in_lem : (x : List ℕ) (ys : List (List ℕ)) → Decides (In x ys) (is_in x ys)
is_in_lem x [] = no (λ h. h)
is_in_lem x (y ∷ ys) = decides_or (is_same x y) (is_in_lem x ys)

pub once_each : (ns : List (List ℕ)) → Decides (Once ns) (all_once_lem ns)
once_each [] = yes tt
once_each (n ∷ ns) = decides_and (decides_not (is_in_lem n ns)) (once_each ns)

-- Codes: the rules as `list_ok_lem` tests them, one for each clause that refuses.
abbrev LengthRule : ℕ → Type 0
LengthRule n = (1 ≤ n) × (n ≤ 64)

is_length : (n : ℕ) → Decides (LengthRule n) (leb 1 n && leb n 64)
is_length n = decides_and (is_le 1 n) (is_le n 64)

abbrev CodesTested : List ℕ → List ℕ → Type 0
CodesTested run ls =
    ((1 ≤ length ls) × (length ls ≤ 128)) × (Each LengthRule ls × ((total ls ≡ length run) × Each Band run))

codes_tested : (run ls : List ℕ) → Decides (CodesTested run ls) (list_ok_lem run ls)
codes_tested run ls =
    decides_and
    (decides_and (is_le 1 (length ls)) (is_le (length ls) 128))
    (decides_and
    (all_each is_length ls)
    (decides_and (is_eq (total ls) (length run)) (all_bands run)))

module _ (run ls : List ℕ) where
  not_false_codes : CodesTested run ls → FalseCodes run ls → ⊥
  not_false_codes h (no_codes e) = omega (arith, h.0.0)
  not_false_codes h (too_many l) = omega (arith, h.0.1)
  not_false_codes h (no_length i) = omega (arith, (each_in LengthRule ls 0 h.1.0 i).0)
  not_false_codes h (too_long n i l) = omega (arith, (each_in LengthRule ls n h.1.0 i).1)
  not_false_codes h (other_sum x) = x h.1.1.0
  not_false_codes h (no_band b i x) = x (each_in Band run b h.1.1.1 i)

  -- all the rules are kept, or some clause refuses
  bad_length : (n : ℕ) → In n ls → (LengthRule n → ⊥) → FalseCodes run ls
  bad_length zero i x = no_length i
  bad_length (suc n) i x = too_long (suc n) i (lt_of_not-le (λ l. x (omega arith, l)))

  clause_codes : CodesTested run ls ⊎ FalseCodes run ls
  clause_codes =
      go (is_le 1 (length ls)) (is_le (length ls) 128) (each_or is_length ls) (is_eq (total ls) (length run))
      (each_or is_band_lem run)
    where
      go : {t u v : Bool} → Decides (1 ≤ length ls) t → Decides (length ls ≤ 128) u
          → Each LengthRule ls ⊎ ((n : ℕ) × In n ls × (LengthRule n → ⊥)) → Decides (total ls ≡ length run) v
          → Each Band run ⊎ ((b : ℕ) × In b run × (Band b → ⊥)) → CodesTested run ls ⊎ FalseCodes run ls
      go (no n) u l s b = inr (no_codes (omega arith))
      go (yes t) (no n) l s b = inr (too_many (lt_of_not-le n))
      go (yes t) (yes u) (inr l) s b = inr (bad_length l.0 l.1 l.2)
      go (yes t) (yes u) (inl l) (no n) b = inr (other_sum n)
      go (yes t) (yes u) (inl l) (yes s) (inr b) = inr (no_band b.0 b.1 b.2)
      go (yes t) (yes u) (inl l) (yes s) (inl b) = inl ((t, u), (l, (s, b)))

  no_clause_codes : (FalseCodes run ls → ⊥) → CodesTested run ls
  no_clause_codes h = elim clause_codes [ inl c ↦ c | inr f ↦ absurd (h f) ]

  pub is_false_codes : Decides (FalseCodes run ls) (not (list_ok_lem run ls))
  is_false_codes = decides_via some_clause (λ f c. not_false_codes c f) (decides_not (codes_tested run ls))
    where
      some_clause : (CodesTested run ls → ⊥) → FalseCodes run ls
      some_clause n = elim clause_codes [ inl c ↦ absurd (n c) | inr f ↦ f ]

pub codes_checked : ChecksCodes list_ok_lem
codes_checked run ls = decides_via (not_false_codes run ls) (no_clause_codes run ls) (codes_tested run ls)

pub codes_only : (ok : List ℕ → List ℕ → Bool) → ChecksCodes ok → (run ls : List ℕ) → ok run ls ≡ list_ok_lem run ls
codes_only ok h run ls = decides_one (h run ls) (codes_checked run ls)

-- Names, likewise.
abbrev NamesTested : ℕ → List ℕ → List ℕ → Type 0
NamesTested codes run ls =
    (length ls ≡ codes) × ((total ls ≡ length run) × (Each NameRule (codes_in run ls) × Once (codes_in run ls)))

names_tested : (codes : ℕ) (run ls : List ℕ) → Decides (NamesTested codes run ls) (names_ok_lem codes run ls)
names_tested codes run ls =
    decides_and
    (is_eq (length ls) codes)
    (decides_and
    (is_eq (total ls) (length run))
    (decides_and (all_each is_name (codes_in run ls)) (once_each (codes_in run ls))))

module _ (codes : ℕ) (run ls : List ℕ) where
  not_false_names : NamesTested codes run ls → FalseNames codes run ls → ⊥
  not_false_names h (other_count x) = x h.0
  not_false_names h (other_names_sum x) = x h.1.0
  not_false_names h (no_name n i x) = x (each_in NameRule (codes_in run ls) n h.1.1.0 i)
  not_false_names h (used_twice x) = x h.1.1.1

  clause_names : NamesTested codes run ls ⊎ FalseNames codes run ls
  clause_names =
      go (is_eq (length ls) codes) (is_eq (total ls) (length run)) (each_or is_name ns) (once_each ns)
    where
      ns : List (List ℕ)
      ns = codes_in run ls

      go : {t u v : Bool} → Decides (length ls ≡ codes) t → Decides (total ls ≡ length run) u
          → Each NameRule ns ⊎ ((n : List ℕ) × In n ns × (NameRule n → ⊥)) → Decides (Once ns) v
          → NamesTested codes run ls ⊎ FalseNames codes run ls
      go (no n) s e o = inr (other_count n)
      go (yes c) (no n) e o = inr (other_names_sum n)
      go (yes c) (yes s) (inr e) o = inr (no_name e.0 e.1 e.2)
      go (yes c) (yes s) (inl e) (no n) = inr (used_twice n)
      go (yes c) (yes s) (inl e) (yes o) = inl (c, (s, (e, o)))

  no_clause_names : (FalseNames codes run ls → ⊥) → NamesTested codes run ls
  no_clause_names h = elim clause_names [ inl c ↦ c | inr f ↦ absurd (h f) ]

  pub is_false_names : Decides (FalseNames codes run ls) (not (names_ok_lem codes run ls))
  is_false_names = decides_via some_clause (λ f c. not_false_names c f) (decides_not (names_tested codes run ls))
    where
      some_clause : (NamesTested codes run ls → ⊥) → FalseNames codes run ls
      some_clause n = elim clause_names [ inl c ↦ absurd (n c) | inr f ↦ f ]

pub names_checked : ChecksNames names_ok_lem
names_checked codes run ls =
    decides_via (not_false_names codes run ls) (no_clause_names codes run ls) (names_tested codes run ls)

pub names_only : (ok : ℕ → List ℕ → List ℕ → Bool) → ChecksNames ok → (codes : ℕ) (run ls : List ℕ)
    → ok codes run ls ≡ names_ok_lem codes run ls
names_only ok h codes run ls = decides_one (h codes run ls) (names_checked codes run ls)

-- What passes, in the words' own terms: cut from a run of bands with such lengths they are codes, and back.
cut_codes : (run ls : List ℕ) → total ls ≡ length run → Each LengthRule ls → Each Band run
    → Each CodeRule (codes_in run ls)
cut_codes run [] e h b = tt
cut_codes run (n ∷ ns) e ((l, m), h) b =
    let size : length (take n run) ≡ n = length-take-le n run (omega arith) in (
      (omega arith, omega arith, each_take Band n run b),
      cut_codes (drop n run) ns (rest_adds_up run n ns e) h (each_drop Band n run b),
    )

code_lengths : (cs : List (List ℕ)) → Each CodeRule cs → Each LengthRule (lengths cs)
code_lengths [] h = tt
code_lengths (c ∷ cs) ((l, m, b), h) = ((l, m), code_lengths cs h)

code_bands : (cs : List (List ℕ)) → Each CodeRule cs → Each Band (flat cs)
code_bands [] h = tt
code_bands (c ∷ cs) ((l, m, b), h) = each_append Band c (flat cs) b (code_bands cs h)

pub is_fit_list : (run ls : List ℕ) → Decides (FitList run ls) (list_ok_lem run ls)
is_fit_list run ls = decides_via there back (codes_tested run ls)
  where
    there : CodesTested run ls → FitList run ls
    there ((some, at_most), (sized, (sum, banded))) =
        record {
          some = some;
          at_most = at_most;
          coded = cut_codes run ls sum sized banded;
          joined = flat_again run ls sum;
          as_long = lengths_again run ls sum;
        }

    back : FitList run ls → CodesTested run ls
    back f =
        let sized = subst (Each LengthRule) f.as_long (code_lengths (codes_in run ls) f.coded) in
        let banded = subst (Each Band) f.joined (code_bands (codes_in run ls) f.coded) in
        ((f.some, f.at_most), (sized, (adds_up run ls f.joined f.as_long, banded)))

pub is_fit_names : (codes : ℕ) (run ls : List ℕ) → Decides (FitNames codes run ls) (names_ok_lem codes run ls)
is_fit_names codes run ls = decides_via there back (names_tested codes run ls)
  where
    there : NamesTested codes run ls → FitNames codes run ls
    there (one_each, (sum, (named, once))) =
        record {
          one_each = one_each;
          named = named;
          once = once;
          joined = flat_again run ls sum;
          as_long = lengths_again run ls sum;
        }

    back : FitNames codes run ls → NamesTested codes run ls
    back f = (f.one_each, (adds_up run ls f.joined f.as_long, (f.named, f.once)))
