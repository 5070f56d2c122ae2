-- What the rows show, a row by its pieces, and that the rows are those of the rules.
pub mod Shows
pub mod RowParts
pub mod Placed
