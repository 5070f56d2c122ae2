-- The rows of a sheet, one after the other, and the sheet at the beginning of a buffer.
pub mod Filling
pub mod RowByRow
