-- The laws of the Inspect code on rows of words.
pub mod Rows
pub mod Halves
pub mod Checks
pub mod ReadWords
pub mod WalkWords
pub mod Aside
