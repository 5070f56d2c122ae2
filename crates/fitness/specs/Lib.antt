-- What is taken for a fit list, and for its names.
pub mod Lists
