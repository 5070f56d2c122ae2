-- What a search for the place of a word answers, and what it is handed.
pub mod Answers
pub mod Search
