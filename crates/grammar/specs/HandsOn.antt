-- What reading leaves in the lent buffers, the later calls take.
use Rattle.std.specs.Prelude.{◌≡◌, true, List, ℕ, length}
use Rattle.lists.specs.Runs.{codes_in, flat, lengths}
use Rattle.lists.specs.Fit.{list_ok_lem, names_ok_lem}
use Rattle.grammar.specs.Orders.{read_orders_lem}

-- It passes their tests and spells the same codes and names.
pub record HandedOn (names codes : List (List ℕ)) : Type 0 where
  pub list_passes : list_ok_lem (flat codes) (lengths codes) ≡ true
  pub same_codes : codes_in (flat codes) (lengths codes) ≡ codes
  pub names_pass : names_ok_lem (length codes) (flat names) (lengths names) ≡ true
  pub same_names : codes_in (flat names) (lengths names) ≡ names

abbrev pub Hands-on : Type 0
Hands-on = (s : List ℕ) → (read_orders_lem s).number ≡ 0 → HandedOn (read_orders_lem s).names (read_orders_lem s).codes
