-- The bands of a form: those of its word, in the order in which the form reads them.
use Rattle.std.specs.Prelude.{List, ℕ}
use Rattle.words.specs.Ways.{way_of}
use Rattle.matching.specs.declared.forms.Form.{Form}

abbrev pub bands_of : Form → List ℕ
bands_of f = way_of f.turned f.word.now
