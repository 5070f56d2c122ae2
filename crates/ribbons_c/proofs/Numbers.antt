-- A plain answer whose number is above 0 is read as the refusal of that number, which keeps the call's contract.
use Rattle.std.proofs.Common.{◌≡◌, ℕ, sym, ap, subst, ◌∙◌, Err}
use Rattle.words.specs.Lists.{In}
use Rattle.orders.specs.Calls.{ReadsOrders}
use Rattle.layout.specs.Calls.{LaysRibbon}
use Rattle.verdicts.specs.Calls.{ChecksAlone}
use Rattle.writer.specs.Calls.{WritesSheet}
use Rattle.numbers.specs.Numbers.{numbers_of, read_orders, lay_ribbon, check_only, write_sheet}
use Rattle.numbers.specs.Numbers.{reading, laying, alone, writing}
use Rattle.numbers.proofs.Numbers.{numbers}
use Rattle.ribbons_c.specs.Calls.{refusal_by, plain_read, read_of, plain_laid, laid_of, plain_checked, checked_of, plain_wrote, wrote_of}
use Rattle.ribbons_c.specs.Numbers.{PlainNumbers}
use Rattle.ribbons_c.specs.declared.plain.RibbonsOrders.{RibbonsOrders}
use Rattle.ribbons_c.specs.declared.plain.RibbonsLaid.{RibbonsLaid}
use Rattle.ribbons_c.specs.declared.plain.RibbonsChecked.{RibbonsChecked}
use Rattle.ribbons_c.specs.declared.plain.RibbonsSheet.{RibbonsSheet}
use Rattle.ribbons_c.proofs.Calls.{by_number}

pub plain_numbers : PlainNumbers
plain_numbers =
    record {
      orders =
          λ file before left r m p.
          let e : read_of r ≡ Err (refusal_by r.refused r.row) = by_number r.refused _ _ p in
          subst (λ (n : ℕ). In n (numbers_of read_orders)) (sym (ap (λ (x : RibbonsOrders). x.refused) (m.plainly ∙ ap plain_read e)))
          (numbers.only _ _ (reading (subst (ReadsOrders file before left) e m.meant)));
      laid =
          λ run ls before after r m p.
          let e : laid_of r ≡ Err (refusal_by r.refused 0) = by_number r.refused _ _ p in
          subst (λ (n : ℕ). In n (numbers_of lay_ribbon)) (sym (ap (λ (x : RibbonsLaid). x.refused) (m.plainly ∙ ap plain_laid e)))
          (numbers.only _ _ (laying (subst (LaysRibbon run ls before after) e m.meant)));
      checked =
          λ run ls row r m p.
          let e : checked_of r ≡ Err (refusal_by r.refused 0) = by_number r.refused _ _ p in
          subst (λ (n : ℕ). In n (numbers_of check_only)) (sym (ap (λ (x : RibbonsChecked). x.refused) (m.plainly ∙ ap plain_checked e)))
          (numbers.only _ _ (alone (subst (ChecksAlone run ls row) e m.meant)));
      sheet =
          λ run ls name_run name_ls before after r m p.
          let e : wrote_of r ≡ Err (refusal_by r.refused 0) = by_number r.refused _ _ p in
          subst (λ (n : ℕ). In n (numbers_of write_sheet)) (sym (ap (λ (x : RibbonsSheet). x.refused) (m.plainly ∙ ap plain_wrote e)))
          (numbers.only _ _ (writing (subst (WritesSheet run ls name_run name_ls before after) e m.meant)));
    }
