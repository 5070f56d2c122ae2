-- Words gathered in a run with a length each: one more behind the mark, and the words cut out of the run again.
use mathlib.Core.Path.{◌≡◌, refl, ap, ◌∙◌}
use mathlib.Core.List.{List, [], ◌∷◌, ◌++◌, append_assoc, append-nil, map-append}
use Prim.Native.Nat.{ℕ, ◌+◌, ◌≤◌, ◌<◌}
use native.Mathlib.Numerals.{add-one}
use native.Mathlib.Omega.{arith}
use lib.ListN.{length, take, set, length-append, length-set, length-map}
use lib.Seq.{take_at, drop_at}
use lib.Seq.{length-take-le, take-suc-set, take-add}
use Rattle.lists.specs.Runs.{codes_in, total, flat, lengths}
use Rattle.lists.proofs.Runs.{cut_again, total-lengths}
use Rattle.grammar.specs.Files.{add}

flat_add : (ws : List (List ℕ)) (w : List ℕ) → flat (add ws w) ≡ flat ws ++ w
flat_add [] w = append-nil w
flat_add (v ∷ ws) w = rw (flat_add ws w, append_assoc)

-- words in a run up to a mark, with as many lengths
pub record Filing (words : List (List ℕ)) (run : List ℕ) (mark : ℕ) (ls : List ℕ) (count : ℕ) : Type 0 where
  pub run_is : take mark run ≡ flat words
  pub lengths_are : take count ls ≡ lengths words
  pub in_run : mark ≤ length run
  pub in_lengths : count ≤ length ls

module _ {ws : List (List ℕ)} {run : List ℕ} {mark : ℕ} {ls : List ℕ} {count : ℕ} (f : Filing ws run mark ls count) where
  pub filed_count : length ws ≡ count
  filed_count = omega (arith, length-take-le count ls f.in_lengths, ap length f.lengths_are, length-map ws length)

  pub filed_size : length (flat ws) ≡ mark
  filed_size = omega (arith, length-take-le mark run f.in_run, ap length f.run_is)

  pub filed_total : total (take count ls) ≡ mark
  filed_total = ap total f.lengths_are ∙ (total-lengths ws ∙ filed_size)

  pub filed_run : total (take count ls) ≤ length (take mark run)
  filed_run = omega (arith, filed_total, length-take-le mark run f.in_run)

  pub filed_words : codes_in (take mark run) (take count ls) ≡ ws
  filed_words = rw (f.run_is, f.lengths_are) (cut_again ws)

  pub filed_length : {front : List ℕ} (back : List ℕ) → front ≡ take mark run → length back + mark ≡ length run
      → length (front ++ back) ≡ length run
  filed_length {front} back k l =
      omega (arith, ap length k, length-take-le mark run f.in_run, length-append front back)

  -- what is before the mark is kept, and the next word stands behind it
  pub filed_add : {front w : List ℕ} (back : List ℕ) (size : ℕ) → front ≡ take mark run → length back + mark ≡ length run
      → size ≤ length back → w ≡ take size back → count < length ls
      → Filing (add ws w) (front ++ back) (mark + size) (set ls count size) (count + 1)
  filed_add {front} {w} back size k l r e h =
      let n : length front ≡ mark = ap length k ∙ length-take-le mark run f.in_run in
      let d : length w ≡ size = ap length e ∙ length-take-le size back r in
      record {
        run_is =
            take-add mark size (front ++ back)
            ∙ (cc (take_at front back mark n, drop_at front back mark n, k, f.run_is, e, flat_add ws w));
        lengths_are = rw (add-one, take-suc-set ls count size h, f.lengths_are, map-append, d);
        in_run = omega (arith, length-append front back);
        in_lengths = omega (arith, length-set ls count size);
      }

pub filed_none : (run ls : List ℕ) → Filing [] run 0 ls 0
filed_none run ls = record { run_is = refl; lengths_are = refl; in_run = omega arith; in_lengths = omega arith }
