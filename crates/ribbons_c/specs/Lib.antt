-- What the calls for programs in C promise.
pub mod Calls
pub mod Numbers
