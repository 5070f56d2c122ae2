-- The stages of the call, and what it means.
pub mod Stages
