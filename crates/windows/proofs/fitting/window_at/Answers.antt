-- `window_at`: the window is a part of the row, so its bands add up as that part does.
use mathlib.Core.Path.{refl, ap, sym, subst, ◌∙◌}
use borrow.Author.Rules.{rules}
use Rattle.lists.specs.Runs.{total}
use Rattle.lists.proofs.Runs.{part_to}
use Rattle.windows.specs.Windows.{AddsUp}
use Rattle.windows.proofs.Adding.{part_adds}
use Rattle.windows.proofs.fitting.window_at.Goals as goal

pub returns : goal.returns
returns c =
    let s = c.args.s.now in
    let e = c.sum_of.ensures ∙ ap total (part_to s c.args.start c.args.n) in (
      refl,
      record {
        within = search rules;
        adds_up = subst (AddsUp s c.args.n c.args.start) (sym e) (part_adds s c.args.n c.args.start c.requires.1);
      },
    )
