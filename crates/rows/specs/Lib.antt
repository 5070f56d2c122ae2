-- What reading one row of a file into buffers gives, and what each byte of it does.
pub mod Scans
pub mod Taken
