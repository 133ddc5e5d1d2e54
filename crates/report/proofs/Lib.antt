-- The laws of kinds, lines and listings.
pub mod Names
pub mod Deciding
pub mod Turning
pub mod Listings
pub mod Claims
