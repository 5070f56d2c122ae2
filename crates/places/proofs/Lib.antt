-- What records tell, and the search for the places of all codes.
pub mod Told
pub mod Finding
pub mod One
