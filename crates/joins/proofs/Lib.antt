-- What follows from the rules for joining; read from the top down, or from Claims up.

-- Pieces, their arrangements, and greedy runs.
pub mod Sums
pub mod Mirrors
pub mod Pieces
pub mod Arrange
pub mod Junctions
pub mod Exchange
pub mod Greedy
-- The list of joins describes pieces, and the joins that the rule allows are those between two of them.
pub mod Links
pub mod State
pub mod Step
pub mod Allowed
pub mod Ruled
-- Whoever settles the ties, a run of largest joins keeps half.
pub mod Runs
-- Each of our rounds finds the join that the rule chooses.
pub mod Search
pub mod Ties
pub mod Rounds
pub mod Ends
pub mod Order
-- The row of the joining routines: walked, stored into, written out.
pub mod Walks
pub mod Storing
pub mod Written
pub mod Following
-- The claim leaves no choice.
pub mod Claims
-- One pass makes the same joins as the rounds.
pub mod Passing
-- Wrong ways of joining, caught by it.
pub mod Impostors
