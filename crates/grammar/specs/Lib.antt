-- Order lists as RFC 4180 files: what document 01 asks of a file (Grammar) and the reader that gives it (Rows, Orders);
-- what reading answers and hands on (Answers, HandsOn); fields as they are written; ribbon files.
pub mod Files
pub mod Grammar
pub mod Rows
pub mod Orders
pub mod Answers
pub mod HandsOn
pub mod Quoting
pub mod RibbonFile
