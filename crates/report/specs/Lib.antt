-- What a listing says of a page: its kind, and its line; and the whole listing.
pub mod Kinds
pub mod Lines
pub mod Listing
pub mod Claims
