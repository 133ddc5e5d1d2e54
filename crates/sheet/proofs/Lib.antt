-- The laws of the gain sheet.
pub mod Sums
pub mod Tallying
pub mod Claims
