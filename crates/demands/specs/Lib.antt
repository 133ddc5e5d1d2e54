-- The demands as statements, and what is claimed of the outcome word by word, of a page's pulses, of the Inspect code's figures, of the record
-- length of one byte, of pages filled by the earlier fill and of a record that is placed in a block.
pub mod Demands
pub mod Pulses
pub mod Lengths
pub mod Earlier
pub mod Outcome
pub mod Inspect
pub mod Blocks
