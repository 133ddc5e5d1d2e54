-- The transfer file, what its writer answers and leaves, and what is claimed of both.
pub mod File
pub mod Answer
pub mod Claims
