-- A form has as many bands as its word.
use Rattle.std.proofs.Common.{◌≡◌, length}
use Rattle.words.proofs.Ways.{way_size}
use Rattle.matching.specs.declared.forms.Form.{Form}
use Rattle.matching.specs.Forms.{bands_of}

pub form_size : (f : Form) → length (bands_of f) ≡ length f.word.now
form_size f = way_size f.turned f.word.now
