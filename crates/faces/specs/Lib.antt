-- The faces of parts joined in one pass over them, sorted.
pub mod Passing
pub mod Joining
