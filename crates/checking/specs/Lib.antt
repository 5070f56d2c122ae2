-- The check of a supplied ribbon, by the rules.
pub mod Check
pub mod Answers
