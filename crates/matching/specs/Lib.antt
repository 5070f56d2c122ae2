-- Words as they are read, and patterns that are looked for.
pub mod Forms
pub mod Patterns
