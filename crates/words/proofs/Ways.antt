-- A word's ways, band by band: each is as long as the word, and band i of the turned one is band i from the back.
use mathlib.Core.Path.{◌≡◌, refl}
use mathlib.Core.Bool.{Bool, true, false}
use mathlib.Core.List.{List}
use Prim.Native.Nat.{ℕ, ◌-◌, ◌<◌}
use native.Mathlib.Omega.{arith}
use lib.ListN.{length, get_or}
use Rattle.words.specs.Tests.{pick}
use Rattle.words.specs.Ways.{way_of}
use Rattle.words.proofs.Turning.{turns_ours}

pub way_size : (way : Bool) (c : List ℕ) → length (way_of way c) ≡ length c
way_size true c = (turns_ours c).as_long
way_size false c = refl

pub way_at : (way : Bool) (c : List ℕ) (i : ℕ) → i < length c
    → get_or (way_of way c) i 0 ≡ get_or c (pick way (length c - 1 - i) i) 0
way_at true c i l = (turns_ours c).from_back i (length c - 1 - i) (omega arith)
way_at false c i l = refl
