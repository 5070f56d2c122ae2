-- What the call that lays out a list promises.
pub mod Laid
pub mod Calls
