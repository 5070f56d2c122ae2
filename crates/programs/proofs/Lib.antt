-- The claims on the programs, what they catch, and how much of its files a program need read.
pub mod Prints
pub mod WrongPrograms
pub mod Enough
pub mod ListFirst
