-- What the reader's claim says of an order list: one that is refused is so by 1 to 11, each fault of a row or of the file having
-- its number, and the codes of one that is read are of bands.
use mathlib.Core.Path.{◌≡◌, refl}
use mathlib.Core.Bool.{true}
use mathlib.Core.List.{List}
use Prim.Native.Nat.{ℕ, ◌<◌}
use native.Mathlib.Omega.{arith}
use Rattle.words.specs.Lists.{In, Each}
use Rattle.words.proofs.Lists.{each_map}
use Rattle.lists.specs.Refusals.{long_file_number, broken_row_number, wrong_width_number, wrong_heading_number}
use Rattle.lists.specs.Refusals.{bad_name_number, no_bands_number, long_code_number, unknown_colour_number}
use Rattle.lists.specs.Refusals.{name_taken_number, list_full_number, empty_list_number}
use Rattle.lists.specs.Rules.{Band, CodeRule}
use Rattle.grammar.specs.Files.{Orders}
use Rattle.grammar.specs.Grammar as g
use Rattle.grammar.specs.Grammar.{HeadFault, EntryFault, RowFault, Due, Reads}
use Rattle.numbers.specs.Numbers.{list_numbers}
use Rattle.numbers.proofs.Listed.{is_listed, listed}

abbrev OfList : ℕ → Type 0
OfList n = In n list_numbers

of_list_file : (n : ℕ) → is_listed n list_numbers ≡ true → OfList n
of_list_file n e = listed n list_numbers e

head_number : (fields : List (List ℕ)) (k : ℕ) → HeadFault fields k → OfList k
head_number fields k (g.wrong_heading e) = of_list_file wrong_heading_number refl

entry_number : (before fields : List (List ℕ)) (k : ℕ) → EntryFault before fields k → OfList k
entry_number before fields k (g.bad_name e) = of_list_file bad_name_number refl
entry_number before fields k (g.no_bands e) = of_list_file no_bands_number refl
entry_number before fields k (g.long_code e) = of_list_file long_code_number refl
entry_number before fields k (g.unknown_colour e) = of_list_file unknown_colour_number refl
entry_number before fields k (g.name_taken e) = of_list_file name_taken_number refl
entry_number before fields k (g.list_full e) = of_list_file list_full_number refl

row_number : {of_Fields : List (List ℕ) → ℕ → Type 0} {here : List ℕ} {k : ℕ}
    → ((fields : List (List ℕ)) (j : ℕ) → of_Fields fields j → OfList j) → RowFault of_Fields here k → OfList k
row_number f (g.broken_row b) = of_list_file broken_row_number refl
row_number f (g.wrong_width r w) = of_list_file wrong_width_number refl
row_number f (g.in_fields {fields} {k = k} r x) = f fields k x

due_number : {s : List ℕ} {x : Orders} → Due s x → 0 < x.number → OfList x.number
due_number (g.no_bytes e) p = of_list_file wrong_heading_number refl
due_number (g.in_heading e l) p = row_number head_number l.given
due_number (g.in_entry {es = es} d e l) p = row_number (entry_number (g.names es)) l.given
due_number (g.empty_list d) p = of_list_file empty_list_number refl
due_number (g.accepted d e) p = absurd (omega arith)

pub reads_number : {s : List ℕ} {x : Orders} → Reads s x → 0 < x.number → In x.number list_numbers
reads_number (g.long_file l) p = of_list_file long_file_number refl
reads_number (g.short_file l d) p = due_number d p

due_bands : {s : List ℕ} {x : Orders} → Due s x → Each (Each Band) x.codes
due_bands (g.no_bytes e) = tt
due_bands (g.in_heading e l) = tt
due_bands (g.in_entry d e l) = tt
due_bands (g.empty_list d) = tt
due_bands (g.accepted {es = es} d e) = each_map CodeRule (Each Band) (λ c r. r.2) (g.codes es) d.keeps.coded

pub reads_bands : {s : List ℕ} {x : Orders} → Reads s x → Each (Each Band) x.codes
reads_bands (g.long_file l) = tt
reads_bands (g.short_file l d) = due_bands d
