-- The sheet: the claims on it with their proofs, and document 01's worked example.
pub mod Decimal
pub mod Sheet
pub mod Answers
pub mod Impostors
pub mod Room
pub mod ReadBack
pub mod Example
