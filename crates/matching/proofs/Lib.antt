-- The size of a form; what the loops know at each turn, and what follows when they end.
pub mod Sizes
pub mod Comparing
pub mod LastBands
pub mod Trying
pub mod Passing
pub mod Seeking
