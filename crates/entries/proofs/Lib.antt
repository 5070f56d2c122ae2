-- Words filed in runs; rows checked and gathered.
pub mod Mapped
pub mod Filing
pub mod Checking
pub mod Gathering
