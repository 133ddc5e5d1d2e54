-- What an operation answers: the first refusal whose condition holds, or the result; what a buffer holds afterwards; the layout for C.
pub mod Answer
pub mod Layout
pub mod Claims
