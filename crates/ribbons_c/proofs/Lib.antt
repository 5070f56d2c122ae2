-- Proofs of the calls for programs in C.
pub mod Calls
pub mod Numbers
