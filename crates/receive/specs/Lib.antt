-- The rules of a transfer file and what can be wrong with it, what its reader answers and leaves, and what is claimed of that.
pub mod Field
pub mod Grammar
pub mod Faults
pub mod Read
pub mod Claims
