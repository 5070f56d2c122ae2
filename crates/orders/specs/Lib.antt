-- What the call that reads an order list promises.
pub mod Calls
