-- `write_laid`: by its size the sheet is too long for the buffer, or it is written.
use Rattle.std.proofs.Common.{arith}
use Rattle.writer.proofs.Stages.{ribbon_short, each_placed, there, size_short, sheet_short, sheet_written}
use Rattle.writer.proofs.write_laid.Goals as goal

pub find_places-sought-requires : goal.find_places-sought-requires
find_places-sought-requires c = ribbon_short c.requires

pub show_codes-shown-requires : goal.show_codes-shown-requires
show_codes-shown-requires c = each_placed c.requires c.find_places-sought.ensures

pub invariant_of-rows : goal.invariant_of-rows
invariant_of-rows c = record { there = there c.requires c.show_codes-shown.ensures }

pub returns-then-out-size : goal.returns-then-out-size
returns-then-out-size c =
    sheet_short c.requires c.show_codes-shown.ensures c.sheet_size-size.ensures c.args.saved c.args.out.now
    c.if-out-size.true (rw c.into.ensures)

pub overflow_cast-result : goal.overflow_cast-result
overflow_cast-result c = omega (arith, size_short c.requires c.show_codes-shown.ensures c.sheet_size-size.ensures)

pub returns : goal.returns
returns c =
    sheet_written c.requires c.show_codes-shown.ensures c.sheet_size-size.ensures c.args.saved c.args.out.now
    c.if-out-size.false c.put_sheet.ensures
