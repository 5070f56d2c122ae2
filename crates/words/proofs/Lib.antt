-- The laws of words, in the order in which they build on each other; each definition's claim stands with its laws.
pub mod Lists
pub mod Tests
pub mod Deciding
pub mod Turning
pub mod Standing
pub mod Overlaps
pub mod Falling
pub mod FallBacks
pub mod Placing
pub mod Starting
pub mod Counting
pub mod Ways
pub mod Written
pub mod Partly
pub mod Impostors
pub mod WrongPasses
pub mod WrongCounts
