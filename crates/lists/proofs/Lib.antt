-- The laws of lists: runs cut and joined, the tests of the rules, and wrong tests caught.
pub mod Runs
pub mod Refusals
pub mod Table
pub mod Rules
pub mod Impostors
