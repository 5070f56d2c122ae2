-- Demands 2 and 3 of the rules; read from Laying down.
pub mod Dropping
pub mod Keeping
pub mod Faces
pub mod Reading
pub mod Rival
pub mod Laying
pub mod Claims
pub mod Impostors
pub mod Answers
pub mod WrongCalls
pub mod Room
pub mod Bands
