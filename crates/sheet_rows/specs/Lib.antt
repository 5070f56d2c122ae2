-- The rows of a sheet as they are written.
pub mod Shows
pub mod Placed
pub mod Sheets
