-- The faces of parts, sorted by their bands.
pub mod Sorted
