-- What bands add up to, and starts that are passed over.
pub mod Adding
pub mod Skipping
