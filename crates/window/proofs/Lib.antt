-- Laws of the words of a page, of the window that a word moves through, and of a buffer of zeros that bits are put into.
pub mod Words
pub mod Windows
pub mod Buffers
pub mod Copying
mod Exchanging
