-- Dropping: a code that another holds is left out (document 004, reverse-factor-free).
-- How one code holds another is a parameter: here in either direction, StandsSomeWay.
use Rattle.std.specs.Prelude.{◌≡◌, ◌⊎◌, ◌≢◌, Bool, true, false, ◌&&◌, ◌||◌, List, [], ◌∷◌, map, ℕ, zero, suc, ◌<◌, eqb, ltb, length, get_or}
use Rattle.words.specs.Lists.{In, Rising}
use Rattle.words.specs.Stand.{some_way}

-- code number i of a list
abbrev pub code_at : List (List ℕ) → ℕ → List ℕ
code_at cs i = get_or cs i []

-- code j is longer than code i, or equally long with a lower number
abbrev pub Outranks : List (List ℕ) → ℕ → ℕ → Type 0
Outranks cs j i =
    (length (code_at cs i) < length (code_at cs j))
    ⊎ ((length (code_at cs i) ≡ length (code_at cs j)) × (j < i))

module _ (Holds : List ℕ → List ℕ → Type 0) (cs : List (List ℕ)) where
  -- Code i is dropped if it or its turned form is a run of neighbouring bands in some other code j, and j is longer, or
  -- equally long with a lower number.
  pub record Dropped (i : ℕ) : Type 0 where
    pub j : ℕ
    pub listed : j < length cs
    pub other : i ≢ j
    pub inside : Holds (code_at cs i) (code_at cs j)
    pub outranks : Outranks cs j i

  -- All others are kept, in list order.
  pub record Keeps (ks : List (List ℕ)) : Type 0 where
    pub numbers : List ℕ
    pub in_order : Rising numbers
    pub only : (i : ℕ) → In i numbers → (i < length cs) × (Dropped i → ⊥)
    pub all : (i : ℕ) → i < length cs → (Dropped i → ⊥) → In i numbers
    pub codes : ks ≡ map (code_at cs) numbers

-- The claim that pins the dropping.
abbrev pub Keeper : (List ℕ → List ℕ → Type 0) → (List (List ℕ) → List (List ℕ)) → Type 0
Keeper Holds keep = (cs : List (List ℕ)) → Keeps Holds cs (keep cs)

-- Computed: p is true of some number below n; the numbers from i on, n of them, of which p is false
abbrev pub some_below : ℕ → (ℕ → Bool) → Bool
some_below zero p = false
some_below (suc n) p = p n || some_below n p

abbrev pub without : (ℕ → Bool) → ℕ → ℕ → List ℕ
without p i zero = []
without p i (suc n) = elim (p i) [ true ↦ without p (suc i) n | false ↦ i ∷ without p (suc i) n ]

abbrev pub outranks : List (List ℕ) → ℕ → ℕ → Bool
outranks cs j i =
    ltb (length (code_at cs i)) (length (code_at cs j))
    || (eqb (length (code_at cs i)) (length (code_at cs j)) && ltb j i)

module _ (holds : List ℕ → List ℕ → Bool) (cs : List (List ℕ)) where
  -- code j holds code i and outranks it
  abbrev pub held_by_lem : ℕ → ℕ → Bool
  held_by_lem i j = outranks cs j i && holds (code_at cs i) (code_at cs j)

  abbrev pub is_dropped_lem : ℕ → Bool
  is_dropped_lem i = some_below (length cs) (held_by_lem i)

  abbrev pub kept_by : List (List ℕ)
  kept_by = map (code_at cs) (without is_dropped_lem 0 (length cs))

abbrev pub kept : (List ℕ → List ℕ) → List (List ℕ) → List (List ℕ)
kept turn cs = kept_by (some_way turn) cs
