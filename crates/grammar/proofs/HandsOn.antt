-- What reading leaves passes the later calls and spells the same codes and names.
-- An accepted file's entries keep the rules, and the later calls ask just these of what is cut out of the run again.
use mathlib.Core.Path.{◌≡◌, sym, ap, subst, ◌∙◌}
use mathlib.Core.Logic.{◌≢◌}
use mathlib.Core.List.{List, []}
use Prim.Native.Nat.{ℕ}
use native.Mathlib.Omega.{arith}
use lib.ListN.{length, length-map}
use Rattle.words.proofs.Deciding.{passes}
use Rattle.lists.specs.Runs.{flat, lengths}
use Rattle.lists.specs.Rules.{FitList, FitNames}
use Rattle.lists.proofs.Runs.{cut_again}
use Rattle.lists.proofs.Rules.{is_fit_list, is_fit_names}
use Rattle.grammar.specs.Files.{Orders, orders}
use Rattle.grammar.specs.Grammar.{Entry, names, codes, Rules}
use Rattle.grammar.specs.Orders.{read_orders_lem}
use Rattle.grammar.specs.HandsOn.{HandedOn, Hands-on}
use Rattle.grammar.proofs.Entries.{has_some}
use Rattle.grammar.proofs.Exactly.{Accepted, accepted_only_if}

-- entries that keep the rules
module _ (es : List Entry) (r : Rules es) (some : es ≢ []) where
  abbrev ns : List (List ℕ)
  ns = names es

  abbrev cs : List (List ℕ)
  cs = codes es

  fit_list : FitList (flat cs) (lengths cs)
  fit_list =
      let n : length (lengths cs) ≡ length es = length-map cs length ∙ length-map es (λ e. e.code) in
      record {
        some = omega (arith, has_some es some);
        at_most = omega (arith, r.count);
        coded = rw (cut_again cs) r.coded;
        joined = ap flat (cut_again cs);
        as_long = ap lengths (cut_again cs);
      }

  fit_names : FitNames (length cs) (flat ns) (lengths ns)
  fit_names = record {
    one_each = length-map ns length ∙ length-map es (λ e. e.name) ∙ sym (length-map es (λ e. e.code));
    named = rw (cut_again ns) r.named;
    once = rw (cut_again ns) r.once;
    joined = ap flat (cut_again ns);
    as_long = ap lengths (cut_again ns);
  }

  handed : HandedOn ns cs
  handed = record {
    list_passes = passes (is_fit_list (flat cs) (lengths cs)) fit_list;
    same_codes = cut_again cs;
    names_pass = passes (is_fit_names (length cs) (flat ns) (lengths ns)) fit_names;
    same_names = cut_again ns;
  }

pub hands_on : Hands-on
hands_on s z = let a = accepted_only_if s z in of a.0 a.1 a.2
  where
    of : (es : List Entry) → Accepted s es → read_orders_lem s ≡ orders 0 0 (names es) (codes es)
        → HandedOn (read_orders_lem s).names (read_orders_lem s).codes
    of es a e = subst (λ (x : Orders). HandedOn x.names x.codes) (sym e) (handed es a.passed.keeps a.some)
