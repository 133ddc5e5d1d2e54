-- Laws of checks in their order, and of packed answers.
pub mod Tells
pub mod Chains
pub mod Passing
pub mod Apart
pub mod Claims
