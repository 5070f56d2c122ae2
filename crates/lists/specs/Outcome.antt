-- What a call does, as a function of what is handed over, refused input too: its answer, and what lent memory holds after.
pub record Outcome (Answer Lent : Type 0) : Type 0 where
  pub answer : Answer
  pub after : Lent

abbrev pub outcome : {Answer Lent : Type 0} → Answer → Lent → Outcome Answer Lent
outcome a l = record { answer = a; after = l }
