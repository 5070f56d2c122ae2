-- `band`: a form that is read turned counts from the back.
use Rattle.std.proofs.Common.{rules, sym, ◌∙◌}
use Rattle.words.proofs.Ways.{way_at}
use Rattle.matching.proofs.forms.Form.band.Goals as goal

pub returns-then-self : goal.returns-then-self
returns-then-self c =
    let f = c.args.self in
    sym (way_at f.turned f.word.now c.args.i (search rules) ∙ rw c.if-self.true)
