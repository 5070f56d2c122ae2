-- Places of all listed codes, as records.
pub mod Starts
pub mod Calls
