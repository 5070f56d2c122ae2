-- Laying out a list of codes: which are kept, in which order of faces, and the ribbon that an order gives.
-- The rules are said for any way of turning; the answers and the starred ribbons are for document 01's, `turned`.
pub mod Dropping
pub mod Reading
pub mod Rules
pub mod Layout
pub mod Laid
pub mod Answers
pub mod Starred
