-- The Inspect code: rows of words, and what its writer and its reader answer and leave.
pub mod Rows
pub mod Answer
