-- The laws of the transfer file.
pub mod Fields
pub mod Places
pub mod FileAnswers
pub mod Claims
