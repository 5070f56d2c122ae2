-- The call that reads: what is gathered is handed over; and what that means.
pub mod HandingOver
pub mod Calls
