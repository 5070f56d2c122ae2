-- By which numbers calls and programs refuse.
pub mod Listed
pub mod Files
pub mod Lines
pub mod Numbers
