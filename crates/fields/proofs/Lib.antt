-- Fields and numbers, byte by byte, and texts piece by piece.
pub mod Digits
pub mod Filling
pub mod Pieces
pub mod Quoted
