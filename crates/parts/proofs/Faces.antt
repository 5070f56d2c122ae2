-- A face is as long as the code that it reads.
use Rattle.std.proofs.Common.{◌≡◌, Bool, true, false, List, ℕ, ◌≤◌, ◌/◌, ◌%◌, eqb, length, refl, sym, ap, ◌∙◌, arith}
use Rattle.words.specs.Turn.{turned}
use Rattle.words.specs.Tests.{pick}
use Rattle.words.proofs.Turning.{turning}
use Rattle.words.proofs.Ways.{way_size}
use Rattle.greedy.specs.Dropping.{code_at}
use Rattle.greedy.specs.Reading.{face_of}
use Rattle.matching.specs.declared.forms.Form.{Form}
use Rattle.matching.specs.Forms.{bands_of}
use Rattle.parts.specs.Parts.{Short}

pub face_size : (form : Form) {face : List ℕ} → bands_of form ≡ face → length face ≡ length form.word.now
face_size form e = sym (ap length e) ∙ way_size form.turned form.word.now

module _ (ks : List (List ℕ)) (short : Short ks) (f : ℕ) where
  pub face_short : length (face_of turned ks f) ≤ 64
  face_short = omega (arith, way (eqb (f % 2) 0), short (f / 2))
    where
      way : (t : Bool) → length (pick t (code_at ks (f / 2)) (turned (code_at ks (f / 2)))) ≡ length (code_at ks (f / 2))
      way true = refl
      way false = turning.as_long (code_at ks (f / 2))

  pub form_short : (form : Form) → bands_of form ≡ face_of turned ks f → length form.word.now ≤ 64
  form_short form e = omega (arith, face_size form e, face_short)
