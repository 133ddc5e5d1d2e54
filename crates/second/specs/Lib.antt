-- What the operations on a second record answer and leave.
pub mod Answer
