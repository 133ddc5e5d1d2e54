-- The gain sheet, and what is claimed of it.
pub mod Sheet
pub mod Claims
