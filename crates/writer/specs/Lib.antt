-- What the call that writes a sheet promises.
pub mod Calls
