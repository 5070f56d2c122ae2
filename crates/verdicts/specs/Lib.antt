-- What the calls that check a supplied ribbon promise.
pub mod Calls
pub mod Supplied
