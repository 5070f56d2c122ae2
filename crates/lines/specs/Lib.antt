-- What each line says.
pub mod Lines
