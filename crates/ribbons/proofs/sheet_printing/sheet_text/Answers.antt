-- `sheet_printing::sheet_text`: a list that was read is not refused, and what is written is its sheet.
use Rattle.ribbons.proofs.SheetText.{sheet_accepted, sheet_written}
use Rattle.ribbons.proofs.sheet_printing.sheet_text.Goals as goal

pub unwrap-wrote-requires : goal.unwrap-wrote-requires
unwrap-wrote-requires c =
    sheet_accepted _ _ _ _ _ c.write_sheet.ensures c.codes-fit.result.fit
    (rw (c.codes-fit.ensures.count, ← c.names-names.ensures.count) c.names-names.result.fit) c.requires

pub returns : goal.returns
returns c =
    rw (← c.codes-fit.ensures.words, ← c.names-names.ensures.words)
    (sheet_written _ _ _ _ _ c.write_sheet.ensures c.codes-fit.result.fit
    (rw (c.codes-fit.ensures.count, ← c.names-names.ensures.count) c.names-names.result.fit) c.requires c.unwrap-wrote.ensures)
