-- Words written as texts, for headings, examples and named lists.
use Rattle.std.specs.Prelude.{List, [], ◌∷◌, ℕ}
use Prim.Native.Char.{code}
use Prim.Native.String.{String}
use Prim.Native.String as S

-- the bytes of a text; every character of ours is one byte
abbrev pub text : String → List ℕ
text S.[] = []
text (S.◌∷◌ c s) = code c ∷ text s
