-- The numbers of refusals, call by call.
pub mod Numbers
