-- How far a number is from zero, and how long a line is.
pub mod Signs
pub mod Short
