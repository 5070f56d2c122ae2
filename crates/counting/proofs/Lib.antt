-- What the loop of the count knows at each turn, and what follows when it ends.
pub mod Counting
