-- `numbers::put_decimal` meets its contract, by the number: the last digit stands behind the digits of the tenth.
use Rattle.std.proofs.Common.{◌++◌, ◌/◌, ◌%◌, ◌∙◌, sym, ap, arith}
use Rattle.sheets.specs.Decimal.{decimal}
use Rattle.sheets.proofs.Decimal.{decimal_one, decimal_more}
use Rattle.fields.proofs.Digits.{one_digit_longer, digit_cut}
use Rattle.fields.proofs.Pieces.{put_as, both_put}
use Rattle.fields.proofs.numbers.+put_decimal.Goals as goal

pub returns-then-n-lt10 : goal.returns-then-n-lt10
returns-then-n-lt10 g t c =
    put_as (decimal_one c.if-n-lt10.true ∙ sym (digit_cut c.args.n c.if-n-lt10.true)) c.put.ensures

pub put_decimal-requires : goal.put_decimal-requires
put_decimal-requires g t c κs within = (omega arith, (within, omega (arith, one_digit_longer c.if-n-lt10.false, c.requires)))

pub put-requires-2 : goal.put-requires-2
put-requires-2 g t c = omega (arith, one_digit_longer c.if-n-lt10.false, c.requires, c.put_decimal.ensures.taken_is, c.put_decimal.ensures.most_is)

pub returns : goal.returns
returns g t c =
    let n = c.args.n in
    let last = digit_cut (n % 10) (omega arith) in
    put_as (decimal_more c.if-n-lt10.false ∙ ap (λ s. decimal (n / 10) ++ s) (sym last))
    (both_put g.S.Sink.laws (omega (arith, one_digit_longer c.if-n-lt10.false, c.requires)) c.put_decimal.ensures c.put-2.ensures)
