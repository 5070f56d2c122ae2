-- Windows of bands on a row.
pub mod Windows
