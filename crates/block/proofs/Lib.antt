-- The laws of a block of pages.
pub mod Choosing
pub mod Pages
pub mod Placing
pub mod Collecting
pub mod Claims
