-- `begins`: `all` goes over the numbers of the form's bands. A longer form doesn't begin the other.
use Rattle.std.proofs.Common.{◌<◌, length, refl, sym, rules, tests, ◌∙◌, arith}
use Rattle.std.proofs.lemmas.Iterator.{YieldsList-from_range}
use Rattle.std.proofs.lemmas.Iterator.Search.{all_from_yields_List}
use Rattle.words.specs.Decides.{no}
use Rattle.words.proofs.Deciding.{decides_one, is_le}
use Rattle.matching.specs.Forms.{bands_of}
use Rattle.matching.proofs.Sizes.{form_size}
use Rattle.matching.proofs.Comparing.{alike, all_alike, begins_longer}
use Rattle.matching.proofs.forms.Form.begins.Goals as goal

pub returns-then-len : goal.returns-then-len
returns-then-len c =
    let a = bands_of c.args.self in
    let b = bands_of c.args.other in
    all_from_yields_List (alike a b) c.all.new.self _ c.all.result c.all.ensures.ran
    (YieldsList-from_range 0 c.len-then-len.result (length a) refl (omega (arith, form_size c.args.self)))
    (λ x r q k. search (rules, tests))
    ∙ all_alike a b (omega (arith, form_size c.args.self, form_size c.args.other)) 0 (length a) (omega arith)

pub returns-else-len : goal.returns-else-len
returns-else-len c =
    let a = bands_of c.args.self in
    let b = bands_of c.args.other in
    let l : length b < length a = omega (arith, form_size c.args.self, form_size c.args.other) in
    decides_one (is_le _ _) (no (λ h. absurd (omega arith))) ∙ sym (begins_longer a b l)
