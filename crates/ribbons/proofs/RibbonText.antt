-- A fit list is laid out into the ribbon program's row, and CR LF behind its ribbon, for which there is room, makes the line.
use Rattle.std.proofs.Common.{◌≡◌, ap, true, List, ◌++◌, ℕ, ◌+◌, ◌≤◌, arith, length, drop, length-append, length-drop, Ok}
use Rattle.words.specs.Turn.{turned}
use Rattle.words.specs.Written.{Written}
use Rattle.words.proofs.Written.{both_written}
use Rattle.lists.specs.Runs.{codes_in}
use Rattle.lists.specs.Fit.{list_ok_lem}
use Rattle.lists.proofs.Runs.{over_written, written_over}
use Rattle.grammar.specs.Files.{line_break}
use Rattle.greedy.specs.Layout.{ribbon_for}
use Rattle.greedy.proofs.Room.{ribbon_at_most}
use Rattle.layout.specs.Calls.{LaysRibbon}
use Rattle.layout.specs.Laid.{Laid}
use Rattle.layout.proofs.Calls.{size_is, left_is}
use Rattle.programs.specs.Programs.{WritesOver}
use Rattle.ribbons.proofs.Outputs.{writes_over}

module _ (run ls before : List ℕ) {after : List ℕ} (ok : list_ok_lem run ls ≡ true) (room : 8194 ≤ length before) {laid : Laid}
    (p : LaysRibbon run ls before after (Ok laid)) where
  pub line_fits : laid.bands + 2 ≤ length after
  line_fits =
      omega (
        arith,
        ribbon_at_most run ls ok,
        size_is p,
        ap length (left_is p),
        length-append (ribbon_for turned (codes_in run ls)) (drop (length (ribbon_for turned (codes_in run ls))) before),
        length-drop (length (ribbon_for turned (codes_in run ls))) before,
      )

  pub line_written : {new : List ℕ} {r : ℕ} → Written after laid.bands line_break new r
      → WritesOver (ribbon_for turned (codes_in run ls) ++ line_break) before new r
  line_written w =
      let v : Written before 0 (ribbon_for turned (codes_in run ls)) after laid.bands =
      rw (left_is p, size_is p) (over_written (ribbon_for turned (codes_in run ls)) before) in
      let u = written_over (both_written (omega arith) v w) in
      writes_over u.0 u.1
