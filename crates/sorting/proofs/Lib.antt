-- Faces in the order of their bands.
pub mod Sides
pub mod Rising
pub mod Together
