-- Texts and numbers as bytes, and what the digits write.
pub mod Text
pub mod Claims
