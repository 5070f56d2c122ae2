-- Fields as they are written: ours meets the claim, it leaves no freedom, impostors fail it; and what is written as a
-- field is a field of the grammar with that content.
use mathlib.Core.Path.{◌≡◌, refl, sym, ap}
use mathlib.Core.Logic.{◌⊎◌, inl, inr, ◌≢◌}
use mathlib.Core.Bool.{Bool}
use mathlib.Core.List.{List, [], ◌∷◌, ◌++◌}
use Prim.Native.Nat.{ℕ}
use native.Mathlib.Omega.{arith}
use lib.ListN.{length}
use Rattle.words.specs.Texts.{text}
use Rattle.words.specs.Tests.{pick}
use Rattle.words.specs.Lists.{Each}
use Rattle.words.specs.Decides.{Decides, yes, no}
use Rattle.words.proofs.Deciding.{passes, refuses, decides_via, decides_or, is_eq}
use Rattle.lists.specs.Rules.{Printed}
use Rattle.grammar.specs.Files.{quote, comma}
use Rattle.grammar.specs.Grammar.{Text, Inside, nothing, byte, doubled, Field, unquoted, quoted}
use Rattle.grammar.specs.Quoting.{Marked, Written, as_it_is, in_quotes, Writes, needs_quotes_lem, doubled_quotes}
use Rattle.grammar.specs.Quoting.{field_text}

is_marked : (c : List ℕ) → Decides (Marked c) (needs_quotes_lem c)
is_marked [] = no (elim [ inl h ↦ h | inr h ↦ h ])
is_marked (b ∷ c) = decides_via there back (decides_or (is_eq b comma) (decides_or (is_eq b quote) (is_marked c)))
  where
    there : (b ≡ comma) ⊎ ((b ≡ quote) ⊎ Marked c) → Marked (b ∷ c)
    there (inl e) = inl (inl (sym e))
    there (inr (inl e)) = inr (inl (sym e))
    there (inr (inr (inl h))) = inl (inr h)
    there (inr (inr (inr h))) = inr (inr h)

    back : Marked (b ∷ c) → (b ≡ comma) ⊎ ((b ≡ quote) ⊎ Marked c)
    back (inl (inl e)) = inl (sym e)
    back (inl (inr h)) = inr (inr (inl h))
    back (inr (inl e)) = inr (inl (sym e))
    back (inr (inr h)) = inr (inr (inr h))

-- between quotes stands the content with each quote doubled, and nothing else may
doubled_inside : (c : List ℕ) → Each Printed c → Inside (doubled_quotes c) c
doubled_inside [] h = nothing
doubled_inside (b ∷ c) (p, h) = by (is_eq b quote) (doubled_inside c h)
  where
    by : {t : Bool} → Decides (b ≡ quote) t → Inside (doubled_quotes c) c
        → Inside (pick t (quote ∷ (quote ∷ [])) (b ∷ []) ++ doubled_quotes c) (b ∷ c)
    by (yes e) i = rw e (doubled i)
    by (no n) i = byte (inl p, n) i

inside_doubled : {w c : List ℕ} → Inside w c → doubled_quotes c ≡ w
inside_doubled nothing = refl
inside_doubled (byte {b} q i) = rw (refuses (is_eq b quote) q.1, inside_doubled i)
inside_doubled (doubled i) = rw (inside_doubled i)

-- The claim: ours meets it, and nothing else does.
pub writes_ours : Writes field_text
writes_ours c h = by (is_marked c)
  where
    by : {t : Bool} → Decides (Marked c) t → Written c (pick t (quote ∷ (doubled_quotes c ++ (quote ∷ []))) c)
    by (yes m) = in_quotes m (doubled_inside c h)
    by (no n) = as_it_is n

pub written_only : {c t : List ℕ} → Written c t → field_text c ≡ t
written_only {c} (as_it_is n) = rw (refuses (is_marked c) n)
written_only {c} (in_quotes m i) = rw (passes (is_marked c) m, inside_doubled i)

pub writes_only : (write : List ℕ → List ℕ) → Writes write → (c : List ℕ) → Each Printed c → write c ≡ field_text c
writes_only write w c h = sym (written_only (w c h))

-- What is written is a field with that content.
texts : (c : List ℕ) → Each Printed c → (Marked c → ⊥) → Each Text c
texts [] h n = tt
texts (b ∷ c) (p, h) n = (
  (p, (λ e. n (inr (inl (sym e)))), (λ e. n (inl (inl (sym e))))),
  texts c h (elim [ inl i ↦ n (inl (inr i)) | inr i ↦ n (inr (inr i)) ]),
)

pub written_field : {c t : List ℕ} → Each Printed c → Written c t → Field t c
written_field {c} h (as_it_is n) = unquoted (texts c h n)
written_field h (in_quotes m i) = quoted i

-- Impostors, each caught on a content that it writes too short or too long.
caught : (write : List ℕ → List ℕ) (c : List ℕ) → Each Printed c → length (field_text c) ≢ length (write c)
    → Writes write → ⊥
caught write c h d w = d (ap length (written_only (w c h)))

-- quotes not doubled; on a quote
abbrev pub undoubled : List ℕ → List ℕ
undoubled c = pick (needs_quotes_lem c) (quote ∷ (c ++ (quote ∷ []))) c

pub not_undoubled : Writes undoubled → ⊥
not_undoubled = caught undoubled (quote ∷ []) (omega arith) (λ e. omega arith)

-- never quoted; on a comma
pub not_never_quoted : Writes (λ c. c) → ⊥
not_never_quoted = caught (λ c. c) (comma ∷ []) (omega arith) (λ e. omega arith)

-- always quoted; on P
abbrev always_quoted : List ℕ → List ℕ
always_quoted c = quote ∷ (doubled_quotes c ++ (quote ∷ []))

pub not_always_quoted : Writes always_quoted → ⊥
not_always_quoted = caught always_quoted (text "P") (omega arith) (λ e. omega arith)
