-- `order_list::OrderList::read`: a list that is read is fit, and a file that is refused is refused for itself.
use Rattle.std.proofs.Common.{rules}
use Rattle.std.proofs.lemmas.Result.{err_from_is_err_and}
use Rattle.ribbons.proofs.Outputs.{read_as, refused_as}
use Rattle.ribbons.proofs.order_list.OrderList.read.Goals as goal

pub returns-in_err-counts : goal.returns-in_err-counts
returns-in_err-counts c =
    let p = err_from_is_err_and c.from_residual.result c.from_residual.ensures.1 in
    rw (p.1, p.2) (refused_as (search rules) (search rules) (search rules) (search rules) c.in_err-counts.ensures.means.0)

pub returns : goal.returns
returns c = read_as c.in_ok-counts.ensures.means
