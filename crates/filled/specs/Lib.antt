-- What filling a page and measuring one answer and leave.
pub mod Answer
