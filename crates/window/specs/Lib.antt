-- The definitions of the words of a page.
pub mod Words
