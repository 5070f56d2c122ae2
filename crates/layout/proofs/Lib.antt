-- The stages put together, and what the call means.
pub mod Stages
pub mod Calls
