-- Codes cut from a run, those that are kept, and their faces.
pub mod Cutting
pub mod Sieving
pub mod Faces
