-- The difference of two lengths, and what a check promises.
pub mod Signed
pub mod Calls
