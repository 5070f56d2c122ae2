-- `Joining::join_from`: a face that ends no piece is passed over; else the head of its piece is found, and the search among the
-- sorted faces finds the join that is made, or none.
use Rattle.joins.proofs.Passing.{row_used}
use Rattle.joining.proofs.Rows.{row_open, row_taken}
use Rattle.faces.proofs.Passing.{none_follows, one_follows}
use Rattle.faces.proofs.pass.Joining.join_from.Goals as goal

pub returns-then-is_some : goal.returns-then-is_some
returns-then-is_some c =
    let p = c.requires in
    record {
      codes = p.1.codes;
      passed = row_used p.1.passed p.0 (row_taken c.args.self.now.after c.args.a c.if-is_some.ensures);
    }

pub returns-in-Some : goal.returns-in-Some
returns-in-Some c =
    let p = c.requires in
    record {
      codes = p.1.codes;
      passed = one_follows p.1.passed p.0 (row_open c.args.self.now.after c.args.a c.if-is_some.ensures)
          c.mirror_of.ensures.0
          (rw (c.len.ensures.count, c.parts.ensures) at c.end_from.ensures)
          c.mirror_of-head.ensures.0
          _ c.in-Some.ensures c.make_join.ensures;
    }

pub returns-in_default : goal.returns-in_default
returns-in_default c =
    let p = c.requires in
    record {
      codes = p.1.codes;
      passed = none_follows p.1.passed p.0 (row_open c.args.self.now.after c.args.a c.if-is_some.ensures)
          c.mirror_of.ensures.0
          (rw (c.len.ensures.count, c.parts.ensures) at c.end_from.ensures)
          c.mirror_of-head.ensures.0
          c.in_default.ensures;
    }
