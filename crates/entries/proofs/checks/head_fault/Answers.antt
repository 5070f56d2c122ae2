-- `head_fault` meets its contract: the heading is another by the first or by the second field.
use Rattle.std.specs.Cmp.Lexicographic.{other_text}
use Rattle.grammar.specs.Files.{word_name, word_code}
use Rattle.entries.proofs.Checking.{other_name, other_code}
use Rattle.entries.proofs.checks.head_fault.Goals as goal
use Rattle.entries.proofs.checks.head_fault.Goals.{else-eq-via-then-eq+else-eq-2, else-eq-via-else-eq}

pub returns : goal.returns
returns c =
    let n = c.args.name.now in
    let k = c.args.code.now in
    elim c.else-eq.branch [
      | else-eq-via-then-eq+else-eq-2 w ↦
          other_code n k (other_text k word_code (rw w.as_slice-then-eq.ensures at w.if-eq-2.ensures))
      | else-eq-via-else-eq w ↦ other_name n k (other_text n word_name (rw c.as_slice.ensures at w.if-eq.ensures))
    ]
