-- `page::put_sheet` meets its contract: the rows behind the heading, from the beginning of the buffer on.
use Rattle.std.proofs.Common.{arith}
use Rattle.fields.proofs.Filling.{puts_written, begun_written}
use Rattle.pages.proofs.Filling.{both_put}
use Rattle.pages.proofs.page.put_sheet.Goals as goal

pub returns : goal.returns
returns c = both_put (begun_written c.new-page.ensures c.put_heading.ensures) (puts_written c.put_rows.ensures) (grind arith)
