-- `write_line` meets its contract: the row has room for any line, since its numbers have 32 bits.
use Rattle.std.proofs.Common.{◌≡◌, refl, ◌≤◌, length, arith, Result, Ok, Err}
use Rattle.lists.specs.declared.numbers.Refusal.{Refusal}
use Rattle.verdicts.specs.Calls.{answer_of}
use Rattle.verdicts.specs.declared.Checked.{Checked}
use Rattle.verdicts.specs.declared.Checked.TheVariants.{Missing, Held}
use Rattle.fields.proofs.Filling.{begun_fits}
use Rattle.lines.specs.Lines.{line_of}
use Rattle.lines.proofs.Short.{refused_short, held_short, missing_short}
use Rattle.lines.proofs.write_line.Goals as goal
use Rattle.lines.proofs.write_line.Goals.{Start}

-- what each number is below is known of the answer as a whole, by its case

few : (c : Start) (x : Result Checked Refusal) → c.args.answer ≡ x → length (line_of (answer_of x)) ≤ 32
few c (Err r) e = let below = rw e at c.well_formed.0 in refused_short r (omega (arith, below.1.1.1.1.0))
few c (Ok (Held d)) e = let below = rw e at c.well_formed.0 in held_short d below.1.1.1.1.0.1.1.1.1.0.1
few c (Ok (Missing k)) e = let below = rw e at c.well_formed.0 in missing_short k below.1.1.1.1.0.1.1.1.1.0.1

pub put_line-requires : goal.put_line-requires
put_line-requires c =
    let x = c.args.answer in
    begun_fits c.new-line.ensures (line_of (answer_of x)) (omega (arith, few (goal.at.put_line-requires c).Start x refl, c.requires))
