-- The lowest face that follows a face, and the pass.
pub mod Picking
pub mod Ranges
pub mod Passing
