-- What the search among the sorted faces gives to the pass: the lowest face that can follow.
use Rattle.std.specs.Prelude.{◌≡◌, ◌≢◌, ◌⊎◌, Bool, not, ◌&&◌, List, ℕ, ◌*◌, ◌≤◌, ◌<◌, eqb, length, get_or, Option, Some, None}
use Rattle.words.specs.Turn.{turned}
use Rattle.words.specs.Overlap.{Shares}
use Rattle.joins.specs.Faces.{mirror}
use Rattle.joining.specs.Joins.{row_of}
use Rattle.greedy.specs.Reading.{face_of}
use Rattle.faces.specs.declared.following.Followers.{Followers}

-- the lowest number that has a property; none where no number has it
abbrev pub Lowest : (ℕ → Type 0) → Option ℕ → Type 0
Lowest Has None = (b : ℕ) → Has b → ⊥
Lowest Has (Some r) = Has r × ((b : ℕ) → Has b → r ≤ b)

-- Face b can come after face a with o bands shared: it begins with a's last o bands, it begins a piece (nothing comes
-- before it, by `after`), and it is neither the head of a's own piece nor a's mirror.
pub record Follows (ks : List (List ℕ)) (after : List ℕ) (a o head b : ℕ) : Type 0 where
  pub within : b < 2 * length ks
  pub shares : Shares (face_of turned ks a) (face_of turned ks b) o
  pub begins : get_or after (mirror b) 0 ≡ 0
  pub unclosed : b ≢ head
  pub unmirrored : b ≢ mirror a

abbrev pub LowestFollows : List (List ℕ) → List ℕ → (a o head : ℕ) → Option ℕ → Type 0
LowestFollows ks after a o head r = Lowest (Follows ks after a o head) r

-- Whatever its bands, b may come after a: it begins a piece, and is neither the head of a's own piece nor `other`, a's
-- mirror.
pub record MayFollow (after : List ℕ) (head other b : ℕ) : Type 0 where
  pub begins : get_or after (mirror b) 0 ≡ 0
  pub unclosed : b ≢ head
  pub unmirrored : b ≢ other

-- its test
abbrev pub may_follow_lem : List ℕ → (head other b : ℕ) → Bool
may_follow_lem after head other b = not (eqb b head) && not (eqb b other) && eqb (get_or after (mirror b) 0) 0

-- what b is to those that may follow, and the test of it
abbrev pub Takes : Followers → ℕ → Type 0
Takes f b = MayFollow (row_of f.after.now) f.head f.other b

abbrev pub takes_lem : Followers → ℕ → Bool
takes_lem f b = may_follow_lem (row_of f.after.now) f.head f.other b

-- r is a number up to b
abbrev pub Under : Option ℕ → ℕ → Type 0
Under None b = ⊥
Under (Some r) b = r ≤ b

-- the lower of `old` and b, if b has a property; else `old`
pub record Lower (Has : ℕ → Type 0) (b : ℕ) (old r : Option ℕ) : Type 0 where
  pub falls : (l : ℕ) → old ≡ Some l → Under r l
  pub passed : Has b → Under r b
  pub taken : (r ≡ old) ⊎ ((r ≡ Some b) × Has b)

-- b is one of the first m faces of a row, and has a property
pub record Among (faces : List ℕ) (m : ℕ) (Has : ℕ → Type 0) (b : ℕ) : Type 0 where
  pub place : ℕ
  pub within : place < m
  pub at : get_or faces place 0 ≡ b
  pub has : Has b

abbrev pub LowestAmong : (ℕ → Type 0) → List ℕ → Option ℕ → Type 0
LowestAmong Has faces r = Lowest (Among faces (length faces) Has) r
