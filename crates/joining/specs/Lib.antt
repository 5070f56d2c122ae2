-- The joins as the routines hold them.
pub mod Joins
