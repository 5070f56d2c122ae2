-- One more entry: it has no fault exactly when the list keeps the rules with it too. Each fault is one rule broken.
use mathlib.Core.Path.{refl, sym, ap}
use mathlib.Core.Logic.{inl, inr, ◌≢◌}
use mathlib.Core.List.{List, [], ◌∷◌, map-append}
use Prim.Native.Nat.{ℕ, ◌≤◌, ◌<◌}
use native.Mathlib.Omega.{arith}
use lib.ListN.{length, length-append, length-map}
use Rattle.words.specs.Lists.{In, Once}
use Rattle.words.proofs.Lists.{in_either, each_append}
use Rattle.words.proofs.Deciding.{stable, not_lt}
use Rattle.lists.specs.Refusals.{bad_name_number, no_bands_number, long_code_number, unknown_colour_number, name_taken_number, list_full_number}
use Rattle.lists.specs.Rules.{NameRule, CodeRule}
use Rattle.lists.proofs.Rules.{is_name, all_bands}
use Rattle.grammar.specs.Files.{add}
use Rattle.grammar.specs.Grammar.{RowAt, Rows, none, next, Entry, names, codes, Passed, EntryFault, bad_name}
use Rattle.grammar.specs.Grammar.{no_bands, long_code, unknown_colour, name_taken, list_full}

-- an entry that keeps the rules has no fault
pub faultless : {ns : List (List ℕ)} {n c : List ℕ} → NameRule n → CodeRule c → (In n ns → ⊥) → length ns < 128
    → (k : ℕ) → EntryFault ns (n ∷ (c ∷ [])) k → ⊥
faultless a b o l k (bad_name h) = h a
faultless a b o l k (no_bands h) = omega (arith, ap length h)
faultless a b o l k (long_code h) = omega arith
faultless a b o l k (unknown_colour h) = h b.2
faultless a b o l k (name_taken h) = o h
faultless a b o l k (list_full h) = omega arith

-- and one without fault keeps them
pub has_some : {A : Type 0} (xs : List A) → xs ≢ [] → 1 ≤ length xs
has_some [] n = absurd (n refl)
has_some (x ∷ xs) n = omega arith

module _ {ns : List (List ℕ)} {n c : List ℕ} (q : (k : ℕ) → EntryFault ns (n ∷ (c ∷ [])) k → ⊥) where
  pub name_kept : NameRule n
  name_kept = stable (is_name n) (λ h. q bad_name_number (bad_name h))

  pub code_kept : CodeRule c
  code_kept = (
    has_some c (λ h. q no_bands_number (no_bands h)),
    not_lt (λ h. q long_code_number (long_code h)),
    stable (all_bands c) (λ h. q unknown_colour_number (unknown_colour h)),
  )

  name_new : In n ns → ⊥
  name_new h = q name_taken_number (name_taken h)

  pub room : length ns < 128
  room = not_lt (λ h. q list_full_number (list_full (omega arith)))

-- so the list with it has passed as well
once_add : (ns : List (List ℕ)) (n : List ℕ) → Once ns → (In n ns → ⊥) → Once (add ns n)
once_add [] n h q = ((λ i. i), tt)
once_add (m ∷ ns) n (o, h) q = (new, once_add ns n h (λ i. q (inr i)))
  where
    new : In m (add ns n) → ⊥
    new i = elim (in_either m ns (n ∷ []) i) [ inl j ↦ o j | inr (inl e) ↦ q (inl (sym e)) | inr (inr j) ↦ j ]

rows_add : {s t u : List ℕ} {rs : List (List (List ℕ))} {fs : List (List ℕ)} → Rows s rs t → t ≢ [] → RowAt t fs u
    → Rows s (add rs fs) u
rows_add none ne a = next ne a none
rows_add (next n b r) ne a = next n b (rows_add r ne a)

abbrev pub entry : List ℕ → List ℕ → Entry
entry n c = record { name = n; code = c }

pub passed_add : {s t u : List ℕ} {es : List Entry} {n c : List ℕ} → Passed s es t → t ≢ [] → RowAt t (n ∷ (c ∷ [])) u
    → ((k : ℕ) → EntryFault (names es) (n ∷ (c ∷ [])) k → ⊥) → Passed s (add es (entry n c)) u
passed_add {es} {n} {c} p ne a q = record {
  begins = rw map-append (rows_add p.begins ne a);
  keeps = record {
    named = rw map-append (each_append NameRule (names es) (n ∷ []) p.keeps.named (name_kept q, tt));
    coded = rw map-append (each_append CodeRule (codes es) (c ∷ []) p.keeps.coded (code_kept q, tt));
    once = rw map-append (once_add (names es) n p.keeps.once (name_new q));
    count = omega (arith, length-append es (entry n c ∷ []), length-map es (λ (e : Entry). e.name), room q);
  };
}
