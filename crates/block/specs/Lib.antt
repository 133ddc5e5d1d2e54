-- A block of pages: choosing one for a record, collecting those that are kept, what both answer and leave, and what is claimed of them.
pub mod Block
pub mod Answer
pub mod Claims
