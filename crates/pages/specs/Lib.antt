-- What writing a sheet leaves.
pub mod Pages
