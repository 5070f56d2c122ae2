-- The checksum.
pub mod Sums
