-- What the steps of reading a file give.
pub mod Gathering
