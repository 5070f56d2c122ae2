-- How a count passes along a row.
pub mod Moves
