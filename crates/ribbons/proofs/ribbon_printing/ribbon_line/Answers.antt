-- `ribbon_printing::ribbon_line`: a list that was read is laid out, and CR LF behind its ribbon makes the line.
use Rattle.std.proofs.Common.{rules}
use Rattle.layout.proofs.Calls.{told}
use Rattle.verdicts.proofs.Calls.{is_laid}
use Rattle.ribbons.proofs.RibbonText.{line_fits, line_written}
use Rattle.ribbons.proofs.ribbon_printing.ribbon_line.Goals as goal

pub unwrap-laid-requires : goal.unwrap-laid-requires
unwrap-laid-requires c = is_laid _ _ _ c.codes-fit.result.fit (search rules) _ c.lay_ribbon.ensures

pub put_word-requires : goal.put_word-requires
put_word-requires c =
    line_fits _ _ _ c.codes-fit.result.fit c.requires (told c.lay_ribbon.ensures c.unwrap-laid.ensures)

pub returns : goal.returns
returns c =
    rw (← c.codes-fit.ensures.words)
    (line_written _ _ _ c.codes-fit.result.fit c.requires (told c.lay_ribbon.ensures c.unwrap-laid.ensures) c.put_word.ensures)
