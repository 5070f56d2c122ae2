-- The ribbon of a file: ours meets the claim, it leaves no freedom, and impostors fail it.
use mathlib.Core.Path.{◌≡◌, sym, ap, ◌∙◌}
use mathlib.Core.Logic.{◌≢◌}
use mathlib.Core.Bool.{Bool, true, false, ◌&&◌}
use mathlib.Core.List.{List, [], ◌∷◌, ◌++◌}
use Prim.Native.Nat.{ℕ, zero, suc, ◌-◌}
use native.Mathlib.Omega.{arith}
use lib.Dec.{eqb}
use lib.ListN.{length, take, drop, length-append, take-append-drop}
use lib.Seq.{take_at, drop_at}
use Rattle.words.specs.Texts.{text}
use Rattle.words.specs.Tests.{pick}
use Rattle.words.specs.Decides.{Decides, yes, no}
use Rattle.words.proofs.Deciding.{passes, refuses, is_same}
use Rattle.grammar.specs.Files.{cr, lf, line_break}
use Rattle.grammar.specs.RibbonFile.{RibbonFile, ended, not_ended, Takes, ribbon_of_lem}

-- the last two bytes are CR LF exactly if the file is something and CR LF
abbrev last_two : List ℕ → List ℕ
last_two s = drop (length s - 2) s

ends_so : (s : List ℕ) → last_two s ≡ line_break → s ≡ take (length s - 2) s ++ line_break
ends_so s e = cc (take-append-drop (length s - 2) s)

module _ (s r : List ℕ) (e : s ≡ r ++ line_break) where
  before : length r ≡ length s - 2
  before = omega (arith, simp length-append at (ap length e))

  ends_then : last_two s ≡ line_break
  ends_then = ap (drop (length s - 2)) e ∙ drop_at r line_break (length s - 2) before

  rest_then : take (length s - 2) s ≡ r
  rest_then = ap (take (length s - 2)) e ∙ take_at r line_break (length s - 2) before

-- The claim: ours meets it, and nothing else does.
pub takes_ours : Takes ribbon_of_lem
takes_ours s = by (is_same (last_two s) line_break)
  where
    by : {t : Bool} → Decides (last_two s ≡ line_break) t → RibbonFile s (pick t (take (length s - 2) s) s)
    by (yes e) = ended (ends_so s e)
    by (no n) = not_ended (λ r e. n (ends_then s r e))

pub file_only : {s r : List ℕ} → RibbonFile s r → ribbon_of_lem s ≡ r
file_only {s} (ended {r} e) = rw (passes (is_same (last_two s) line_break) (ends_then s r e)) (rest_then s r e)
file_only {s} (not_ended n) =
    rw (refuses (is_same (last_two s) line_break) (λ e. n (take (length s - 2) s) (ends_so s e)))

pub takes_only : (out : List ℕ → List ℕ) → Takes out → (s : List ℕ) → out s ≡ ribbon_of_lem s
takes_only out t s = sym (file_only (t s))

-- Impostors, each caught on a file of which it takes off too little or too much.
caught : (out : List ℕ → List ℕ) (s : List ℕ) → length (ribbon_of_lem s) ≢ length (out s) → Takes out → ⊥
caught out s d t = d (ap length (file_only (t s)))

-- none taken off; on A CR LF
pub not_none_off : Takes (λ s. s) → ⊥
not_none_off = caught (λ s. s) (text "A\r\n") (λ e. omega arith)

-- every CR LF at the end taken off; on A CR LF CR LF
abbrev off : ℕ → List ℕ → List ℕ
off zero s = s
off (suc n) s = off n (ribbon_of_lem s)

abbrev all_at_end_off : List ℕ → List ℕ
all_at_end_off s = off (length s) s

pub not_all_at_end_off : Takes all_at_end_off → ⊥
not_all_at_end_off = caught all_at_end_off (text "A\r\n\r\n") (λ e. omega arith)

-- every CR LF taken off; on A CR LF B
abbrev every_off : List ℕ → List ℕ
every_off [] = []
every_off (a ∷ []) = a ∷ []
every_off (a ∷ (b ∷ s)) = elim (eqb a cr && eqb b lf) [ true ↦ every_off s | false ↦ a ∷ every_off (b ∷ s) ]

pub not_every_off : Takes every_off → ⊥
not_every_off = caught every_off (text "A\r\nB") (λ e. omega arith)
