-- Words: rows of bands (strings), whatever they are for. A band (a symbol) is a number; nothing here asks it to be A to Z.
pub mod Lists
pub mod Tests
pub mod Decides
pub mod Turn
pub mod Ways
pub mod Written
pub mod Stand
pub mod Overlap
pub mod Falling
pub mod Place
pub mod Count
pub mod Texts
