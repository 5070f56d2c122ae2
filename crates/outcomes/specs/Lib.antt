-- What lent records hold before a call, and how many a call fills.
pub mod Dues
pub mod Marks
