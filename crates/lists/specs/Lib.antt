-- Lists of codes and of names as calls hand them over, the rules for them, and the table of refusals.
pub mod Refusals
pub mod Runs
pub mod Outcome
pub mod Rules
pub mod Fit
pub mod Answers
pub mod Handed
