-- The laws of texts and numbers.
pub mod Storing
pub mod Decimals
pub mod Claims
