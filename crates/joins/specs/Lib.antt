-- Joining: faces are numbers and any function gives what two of them share, so no bands are seen here.
pub mod Faces
pub mod Rules
pub mod Ends
pub mod Rounds
pub mod Rows
pub mod Pass
