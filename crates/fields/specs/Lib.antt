-- What a sink for texts is.
pub mod Sinks
pub mod Filled
pub mod Counted
pub mod Writing
pub mod Counting
