-- `find_place` meets the claim that pins the place, which leaves one answer: its returns are the claim's cases.
use Rattle.std.proofs.Common.{◌+◌, ◌<◌, true, length, sym, ◌∙◌, arith}
use Rattle.words.specs.Turn.{turned}
use Rattle.words.proofs.Ways.{way_size}
use Rattle.words.proofs.Turning.{turning}
use Rattle.words.proofs.Placing.{place_is}
use Rattle.finding.proofs.Searching.{place_behind, place_nowhere, place_given, place_turned, place_either}
use Rattle.finding.proofs.starts.find_place.Goals as goal
use Rattle.finding.proofs.starts.find_place.Goals.{then-s-from-via-then-s-from, then-s-from-via-else-s-from+then-s-from-2}

pub returns-then-s-from : goal.returns-then-s-from
returns-then-s-from c =
    let x = c.args in
    let behind = λ (l : length x.s.now < x.from + length x.c.now).
    place_is turning (place_behind {turn = turned} {c = x.c.now} {s = x.s.now} {k = x.from} (way_size true x.c.now) l) in
    elim c.then-s-from.branch [
      | then-s-from-via-then-s-from w ↦ behind (omega arith)
      | then-s-from-via-else-s-from+then-s-from-2 w ↦ behind (omega arith)
    ]

pub returns-in_err-start : goal.returns-in_err-start
returns-in_err-start c =
    rw c.from_residual.ensures (place_is turning (place_nowhere c.in_err-start.ensures (omega arith)))

pub returns-then-not-begins_way : goal.returns-then-not-begins_way
returns-then-not-begins_way c =
    let f = c.in_ok-start.ensures in
    place_is turning (place_turned f.1 f.0 (sym (rw c.given.ensures at c.begins_way.ensures) ∙ c.if-not-begins_way.true))

pub returns-then-begins_way : goal.returns-then-begins_way
returns-then-begins_way c =
    let f = c.in_ok-start.ensures in
    let b = sym (rw c.given.ensures at c.begins_way.ensures) ∙ c.if-not-begins_way.false in
    place_is turning (place_either f.1 f.0 b turning (sym (rw c.turned.ensures at c.begins_way-else-not-begins_way.ensures) ∙ c.if-begins_way.true))

pub returns-else-begins_way : goal.returns-else-begins_way
returns-else-begins_way c =
    let f = c.in_ok-start.ensures in
    let b = sym (rw c.given.ensures at c.begins_way.ensures) ∙ c.if-not-begins_way.false in
    place_is turning (place_given f.1 f.0 b (sym (rw c.turned.ensures at c.begins_way-else-not-begins_way.ensures) ∙ c.if-begins_way.false))
