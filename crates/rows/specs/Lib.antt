-- The definitions of a page: its words and records, and the codes of second records.
pub mod Page
pub mod Code
