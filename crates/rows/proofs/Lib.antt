-- Laws of rows of words, over their number.
pub mod Lowest
pub mod Scanning
pub mod EachWord
pub mod FirstRecord
pub mod SecondWords
pub mod Loaded
pub mod Sums
pub mod Counting
pub mod Blank
pub mod Shapes
pub mod Headers
pub mod FillWords
pub mod ReadWords
pub mod WriteWords
pub mod Gather
pub mod PutRecord
