-- An order list that was read, in the words of what a file holds.
use Rattle.std.specs.Prelude.{◌≡◌, List, ℕ, take, Result, Ok, Err}
use Rattle.lists.specs.Answers.{number_of}
use Rattle.lists.specs.Runs.{codes_in}
use Rattle.lists.specs.declared.numbers.Refusal.{Refusal}
use Rattle.grammar.specs.Files as files
use Rattle.grammar.specs.Orders.{read_orders_lem}
use Rattle.ribbons.specs.declared.order_list.OrderList.{OrderList}

abbrev pub codes_of : OrderList → List (List ℕ)
codes_of l = codes_in (take l.counts.bands l.bands) (take l.counts.codes l.lengths)

abbrev pub names_of : OrderList → List (List ℕ)
names_of l = codes_in (take l.counts.names l.names) (take l.counts.codes l.sizes)

-- What the file is read as: these names and codes, or this refusal.
abbrev pub ReadAs : List ℕ → Result OrderList Refusal → Type 0
ReadAs file (Ok l) = read_orders_lem file ≡ files.orders 0 0 (names_of l) (codes_of l)
ReadAs file (Err r) = read_orders_lem file ≡ files.bad (number_of r.fault) r.row
