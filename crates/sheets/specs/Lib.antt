-- The sheet of a list with names.
pub mod Decimal
pub mod Sheet
pub mod Answers
pub mod ReadBack
