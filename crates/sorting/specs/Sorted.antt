-- Words in the order of their bands (lexicographic), the faces of codes sorted in it, and what a search among them gives.
use Rattle.std.specs.Prelude.{◌≡◌, ◌≢◌, List, [], ◌∷◌, ℕ, ◌+◌, ◌-◌, ◌*◌, ◌≤◌, ◌<◌, ltb, length, drop, get_or}
use Rattle.words.specs.Turn.{turned}
use Rattle.words.specs.Tests.{pick}
use Rattle.greedy.specs.Reading.{face_of}

-- The words that begin with x stand together in the order. A word is before them (0), one of them (1) or after them (2);
-- a word that x is longer than and begins with is before them.
abbrev pub side_of : List ℕ → List ℕ → ℕ
side_of f [] = 1
side_of [] (x ∷ xs) = 0
side_of (y ∷ f) (x ∷ xs) = pick (ltb y x) 0 (pick (ltb x y) 2 (side_of f xs))

-- so g is not before f, the same word or a later one
abbrev pub NotBefore : List ℕ → List ℕ → Type 0
NotBefore g f = 1 ≤ side_of g f

-- the last o bands of a word
abbrev pub ending : ℕ → List ℕ → List ℕ
ending o a = drop (length a - o) a

module _ (ks : List (List ℕ)) where
  -- faces in rising order
  pub record Rising (faces : List ℕ) : Type 0 where
    pub within : (i : ℕ) → i < length faces → get_or faces i 0 < 2 * length ks
    pub rising : (i j : ℕ) → i < j → j < length faces
        → NotBefore (face_of turned ks (get_or faces j 0)) (face_of turned ks (get_or faces i 0))

  -- the first m places have the faces below m, each of them, in rising order
  pub record SortedBelow (m : ℕ) (sorted : List ℕ) : Type 0 where
    pub room : m ≤ length sorted
    pub within : (i : ℕ) → i < m → get_or sorted i 0 < m
    pub each : (f : ℕ) → f < m → (i : ℕ) × (i < m) × (get_or sorted i 0 ≡ f)
    pub rising : (i j : ℕ) → i < j → j < m
        → NotBefore (face_of turned ks (get_or sorted j 0)) (face_of turned ks (get_or sorted i 0))

  -- all faces
  abbrev pub SortedFaces : List ℕ → Type 0
  SortedFaces sorted = SortedBelow (2 * length ks) sorted

  -- what a type keeps of them: no face is missing
  pub record AllSorted (sorted : List ℕ) : Type 0 where
    pub room : 2 * length ks ≤ length sorted
    pub within : (i : ℕ) → i < 2 * length ks → get_or sorted i 0 < 2 * length ks
    pub each : (f : ℕ) → f < 2 * length ks → ((i : ℕ) → i < 2 * length ks → get_or sorted i 0 ≢ f) → ⊥
    pub rising : (i j : ℕ) → i < j → j < 2 * length ks
        → NotBefore (face_of turned ks (get_or sorted j 0)) (face_of turned ks (get_or sorted i 0))

  -- the side of the face at a place, seen from the words that begin with x
  abbrev pub side_at : List ℕ → List ℕ → ℕ → ℕ
  side_at faces x i = side_of (face_of turned ks (get_or faces i 0)) x

-- The faces that begin with x, and all of these.
pub record Begin (ks : List (List ℕ)) (x faces : List ℕ) : Type 0 where
  pub within : (i : ℕ) → i < length faces → get_or faces i 0 < 2 * length ks
  pub one : (i : ℕ) → i < length faces → side_at ks faces x i ≡ 1
  pub each : (f : ℕ) → f < 2 * length ks → side_of (face_of turned ks f) x ≡ 1
      → ((i : ℕ) → i < length faces → get_or faces i 0 ≢ f) → ⊥

-- Of m places with sides s, those before `low` are before side k, and those from `high` on are not.
pub record Narrowed (s : ℕ → ℕ) (k m low high : ℕ) : Type 0 where
  pub ordered : low ≤ high
  pub bound : high ≤ m
  pub below : (i : ℕ) → i < low → s i < k
  pub above : (i : ℕ) → high ≤ i → i < m → k ≤ s i

-- The first place on side k of the words that begin with x, or on a later one, among faces.
abbrev pub FirstPlace : List (List ℕ) → List ℕ → List ℕ → ℕ → ℕ → Type 0
FirstPlace ks faces x k p = Narrowed (side_at ks faces x) k (length faces) p p

-- f is put in at place p of the first m, and the later ones are moved up by one.
pub record Inserted (old : List ℕ) (p m f : ℕ) (new : List ℕ) : Type 0 where
  pub as_long : length new ≡ length old
  pub before : (i : ℕ) → i < p → get_or new i 0 ≡ get_or old i 0
  pub at : get_or new p 0 ≡ f
  pub later : (i : ℕ) → p ≤ i → i < m → get_or new (i + 1) 0 ≡ get_or old i 0
