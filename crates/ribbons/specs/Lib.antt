-- The lists that programs read, and the demands, collected.
pub mod OrderLists
pub mod Demands
