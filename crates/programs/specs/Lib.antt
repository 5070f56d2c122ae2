-- What the programs write for the bytes of their input.
pub mod Programs
pub mod Prints
