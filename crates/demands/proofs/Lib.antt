-- The proofs of the demands (Demands.antt), of a page's pulses (Pulses.antt), of the length of one byte (Lengths.antt), of pages filled earlier
-- (Earlier.antt), of the outcome word by word (Outcome.antt) and of the Inspect code's figures (Inspect.antt), and the laws that only they need.
pub mod Origins
pub mod Laid
pub mod Kept
pub mod FirstPages
pub mod Laws
pub mod Coded
pub mod Written
pub mod Codes
pub mod Bounds
pub mod Pulses
pub mod Demands
pub mod Lengths
pub mod Earlier
pub mod Blocks
pub mod Outcome
pub mod Inspect
