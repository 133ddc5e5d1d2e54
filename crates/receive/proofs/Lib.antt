-- The laws of reading a transfer file.
pub mod Judging
pub mod Walking
pub mod Copying
pub mod Grammar
pub mod Faults
pub mod Rules
pub mod Answers
pub mod Packing
pub mod Claims
