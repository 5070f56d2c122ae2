-- Codes as parts of one run of bands: cut from it, and those that are kept.
pub mod Parts
