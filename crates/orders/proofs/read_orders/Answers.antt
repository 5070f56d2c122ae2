-- `read_orders` meets its contract: too many bytes or none, else what was gathered is handed over.
use mathlib.Core.Path.{sym}
use lib.ListN.{length}
use Rattle.std.proofs.lemmas.Result.{err_from_is_err_and}
use Rattle.words.proofs.Deciding.{is_eq, holds}
use Rattle.grammar.specs.Orders.{read_orders_lem}
use Rattle.grammar.specs.Answers.{lent}
use Rattle.orders.proofs.Calls.{reads_orders}
use Rattle.orders.proofs.HandingOver.{gives_long, gives_empty, gives_bad}
use Rattle.orders.proofs.read_orders.Goals as goal

pub returns-then-file-gt-MOST_FILE_BYTES : goal.returns-then-file-gt-MOST_FILE_BYTES
returns-then-file-gt-MOST_FILE_BYTES c =
    reads_orders _ _ (rw c.into.ensures (gives_long _ _ c.if-file-gt-MOST_FILE_BYTES.true))

pub returns-then-is_empty : goal.returns-then-is_empty
returns-then-is_empty c =
    let none = holds (is_eq (length c.args.file.now) 0) (sym c.if-is_empty.ensures) in
    reads_orders _ _
    (rw c.into-then-is_empty.ensures (gives_empty c.args.file.now _ c.if-file-gt-MOST_FILE_BYTES.false none))

pub returns-in_err-all : goal.returns-in_err-all
returns-in_err-all c =
    let a = c.args in
    let b = lent a.bands.now a.lengths.now a.names.now a.sizes.now in
    let p = err_from_is_err_and c.from_residual.result c.from_residual.ensures.1 in
    rw (p.1, p.2) (reads_orders a.file.now b {left = b} (gives_bad a.file.now b c.in_err-all.ensures))

pub returns : goal.returns
returns c = reads_orders _ _ (c.hand_over.ensures (read_orders_lem c.args.file.now) c.in_ok-all.ensures)
