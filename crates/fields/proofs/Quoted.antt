-- Fields byte by byte: whether a name needs quotes, and its quotes doubled, go on from one byte to the next.
use mathlib.Core.Path.{◌≡◌, refl, sym, ap, ◌∙◌}
use mathlib.Core.Bool.{Bool, true, false, ◌||◌}
use mathlib.Core.List.{List, [], ◌∷◌, ◌++◌, append-nil}
use Prim.Native.Nat.{ℕ, ◌+◌, ◌*◌, ◌≤◌, ◌<◌}
use native.Mathlib.Numerals.{add-one}
use native.Mathlib.Omega.{arith}
use lib.Dec.{eqb}
use lib.ListN.{length, get_or, drop, length-append}
use lib.Seq.{drop-cons}
use Rattle.std.proofs.Math.Bool.{or_assoc}
use Rattle.std.specs.List.{list_any}
use Rattle.std.specs.Prelude.{◌==◌}
use Rattle.words.specs.Tests.{pick}
use Rattle.grammar.specs.Files.{quote, comma}
use Rattle.grammar.specs.Quoting.{needs_quotes_lem, doubled_quotes, field_text}

-- A byte is written twice at most.
pub doubled_few : (b : ℕ) → length (doubled_quotes (b ∷ [])) ≤ 2
doubled_few b = by (eqb b quote)
  where
    by : (t : Bool) → length (pick t (quote ∷ (quote ∷ [])) (b ∷ []) ++ []) ≤ 2
    by true = omega arith
    by false = omega arith

-- Some byte is a comma or a quote.
pub marked_some : (name : List ℕ) → needs_quotes_lem name ≡ list_any (λ b. (b == comma) || (b == quote)) name
marked_some [] = refl
marked_some (b ∷ s) = rw (marked_some s) (sym (or_assoc (eqb b comma) (eqb b quote) _))

-- The first of the bytes that are left, and those behind it.
pub doubled_next : (name : List ℕ) (i : ℕ) → i < length name
    → doubled_quotes (drop i name) ≡ doubled_quotes (get_or name i 0 ∷ []) ++ doubled_quotes (drop (i + 1) name)
doubled_next name i h = rw (add-one, drop-cons name i 0 h, append-nil)

-- A name as a field.
pub unquoted : (name : List ℕ) → needs_quotes_lem name ≡ false → field_text name ≡ name
unquoted name e = rw e

pub quoted : (name : List ℕ) → needs_quotes_lem name ≡ true
    → field_text name ≡ (quote ∷ []) ++ (doubled_quotes name ++ (quote ∷ []))
quoted name e = rw e

pub field_few : (name : List ℕ) → length (field_text name) ≤ 2 * length name + 2
field_few name = by (needs_quotes_lem name)
  where
    twice : (s : List ℕ) → length (doubled_quotes s) ≤ 2 * length s
    twice [] = omega arith
    twice (b ∷ s) =
        omega (
          arith,
          ap length (doubled_next (b ∷ s) 0 (omega arith)) ∙ length-append (doubled_quotes (b ∷ [])) (doubled_quotes s),
          doubled_few b,
          twice s,
        )

    by : (t : Bool) → length (pick t (quote ∷ (doubled_quotes name ++ (quote ∷ []))) name) ≤ 2 * length name + 2
    by true = omega (arith, length-append (doubled_quotes name) (quote ∷ []), twice name)
    by false = omega arith
