-- `put_way`: the part of the row is the form past its first bands, and the rest of the row stays.
use Rattle.std.proofs.Common.{◌≡◌, ℕ, ◌-◌, length, drop, length-take, length-drop, ◌∙◌, sym, arith}
use Rattle.std.proofs.lemmas.List.{ext_get_or}
use Rattle.std.proofs.lemmas.Slice.{put_mid-paste}
use lib.Seq.{get_or-drop}
use Rattle.matching.proofs.Sizes.{form_size}
use Rattle.words.proofs.Written.{copy_written}
use Rattle.matching.specs.Forms.{bands_of}
use Rattle.matching.proofs.writing.put_way.Goals as goal

pub returns : goal.returns
returns c =
    let x = c.args in
    let f = bands_of x.form in
    let n : ℕ = c.len.result - x.skip in
    let size : n ≡ length (drop x.skip f) =
    omega (arith, length-drop x.skip f, form_size x.form) in
    let room : length c.loop-j.band-items ≡ n = omega (arith, length-take {A = ℕ}, length-drop {A = ℕ}) in
    let part : c.loop-j.band-items ≡ drop x.skip f =
    ext_get_or 0 _ _ (room ∙ size) (λ i l. c.loop-j.invariant i (omega arith) ∙ sym (get_or-drop x.skip f i 0)) in
    copy_written x.row.now x.at (drop x.skip f)
    (put_mid-paste x.at _ x.row.now c.loop-j.band-items (drop x.skip f) n part (omega arith) size) size
