-- `Order::write_bands`: the next face goes behind those before it, past what it shares.
use mathlib.Core.Path.{◌∙◌}
use mathlib.Core.List.{[], ◌∷◌, ◌++◌}
use Rattle.std.proofs.Common.{rules, ◌≡◌, ◌+◌, length, arith}
use Rattle.std.proofs.lemmas.Slice.Zip.{zip_turn}
use lib.ListN.{length-append}
use Rattle.words.proofs.Ways.{way_size}
use Rattle.spelling.proofs.Steps.{write_fits, write_next}
use Rattle.spelling.proofs.writing.Order.write_bands.Goals as goal

pub put_way-at-requires : goal.put_way-at-requires
put_way-at-requires c =
    let l = c.loop-f in
    let t = zip_turn c.args.self.now.faces.now c.args.skips.now l.yielded c.into_iter-f-iterator.result l.f-iterator c.next.new.self c.next.result (search rules) (search rules) l.yielded_by _ c.in-Some.is c.next.ensures.steps in
    let size = way_size c.face.result.turned c.face.result.word.now in
    let fits = write_fits c.args.self.now.in_order t.0 (rw (t.2 0) at c.face.ensures.bands) (t.3 0 ∙ c.requires.skips.each _ t.0) l.invariant.behind
    {room = length l.ribbon} (omega (arith, c.requires.room)) in
    (omega (arith, fits.0), omega (arith, fits.1))

pub loop-f-preserved : goal.loop-f-preserved
loop-f-preserved c =
    let l = c.loop-f in
    let t = zip_turn c.args.self.now.faces.now c.args.skips.now l.yielded c.into_iter-f-iterator.result l.f-iterator c.next.new.self c.next.result (search rules) (search rules) l.yielded_by _ c.in-Some.is c.next.ensures.steps in
    let w = write_next c.args.self.now.in_order t.0 (rw (t.2 0) at c.face.ensures.bands) (t.3 0 ∙ c.requires.skips.each _ t.0) l.invariant.behind c.args.ribbon.now
    l.invariant.written c.put_way-at.ensures in
    let n : length (l.yielded ++ (c.in-Some.f, c.in-Some.skip) ∷ []) ≡ length l.yielded + 1 = length-append l.yielded _ in
    rw n (record { behind = w.0; written = w.1 })
