-- The reader meets the claim of specs/Grammar, which leaves no freedom and catches impostors: Exactly and Impostors say
-- so. The call that reads, the writing of fields and ribbon files have claims of their own, at the end.
-- Rows: the scan finds exactly what the grammar derives.
pub mod Scan
pub mod Found
-- Faults: the tests give the lowest one, and an entry without fault keeps the rules.
pub mod Table
pub mod Faults
pub mod Entries
-- Files: the answer due, and no other.
pub mod Reading
pub mod Only
pub mod Exactly
-- Readers that differ.
pub mod WrongReader
pub mod Impostors
-- What reading hands on, to the caller and to the later calls.
pub mod Answers
pub mod HandsOn
-- Fields as they are written, and ribbon files.
pub mod Quoting
pub mod RibbonFile
