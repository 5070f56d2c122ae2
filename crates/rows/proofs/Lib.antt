-- What holds while a row is read.
pub mod Scanning
