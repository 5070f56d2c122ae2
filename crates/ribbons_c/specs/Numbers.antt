-- Which numbers the plain answers carry: those of the calls that they tell. None is 14, which is retired (M-112).
use Rattle.std.specs.Prelude.{List, ℕ, ◌<◌}
use Rattle.words.specs.Lists.{In}
use Rattle.grammar.specs.Answers.{Lent}
use Rattle.numbers.specs.Numbers.{numbers_of, read_orders, lay_ribbon, check_only, write_sheet}
use Rattle.ribbons_c.specs.Calls.{TellsOrders, TellsLaid, TellsChecked, TellsSheet}
use Rattle.ribbons_c.specs.declared.plain.RibbonsOrders.{RibbonsOrders}
use Rattle.ribbons_c.specs.declared.plain.RibbonsLaid.{RibbonsLaid}
use Rattle.ribbons_c.specs.declared.plain.RibbonsChecked.{RibbonsChecked}
use Rattle.ribbons_c.specs.declared.plain.RibbonsSheet.{RibbonsSheet}

pub record PlainNumbers : Type 0 where
  pub orders : (file : List ℕ) (before left : Lent) (r : RibbonsOrders) → TellsOrders file before left r → 0 < r.refused
      → In r.refused (numbers_of read_orders)
  pub laid : (run ls before after : List ℕ) (r : RibbonsLaid) → TellsLaid run ls before after r → 0 < r.refused
      → In r.refused (numbers_of lay_ribbon)
  pub checked : (run ls row : List ℕ) (r : RibbonsChecked) → TellsChecked run ls row r → 0 < r.refused
      → In r.refused (numbers_of check_only)
  pub sheet : (run ls name_run name_ls before after : List ℕ) (r : RibbonsSheet)
      → TellsSheet run ls name_run name_ls before after r → 0 < r.refused → In r.refused (numbers_of write_sheet)
