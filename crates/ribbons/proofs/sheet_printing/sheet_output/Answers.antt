-- `sheet_printing::sheet_output`: what is due for a list that is read, or the line of its refusal.
use Rattle.std.proofs.Common.{List, ℕ}
use Rattle.grammar.specs.Files.{Orders}
use Rattle.sheets.specs.Sheet.{sheet_text_lem}
use Rattle.ribbons.proofs.Outputs.{writes_list}
use Rattle.ribbons.proofs.sheet_printing.sheet_output.Goals as goal

abbrev written : Orders → List ℕ
written x = sheet_text_lem x.names x.codes

pub returns-in-Ok : goal.returns-in-Ok
returns-in-Ok c = writes_list written c.args.file.now c.in-Ok.ensures c.sheet_text.ensures
