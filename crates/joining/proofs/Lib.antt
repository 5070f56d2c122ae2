-- The joins as a row of numbers.
pub mod Rows
