-- What the loop of the search knows at each turn, and what follows when it ends.
pub mod Searching
