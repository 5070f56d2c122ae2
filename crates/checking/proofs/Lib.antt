-- The check: its search and the call, with what is caught by their claims.
pub mod Check
pub mod Impostors
pub mod Answers
pub mod WrongCalls
