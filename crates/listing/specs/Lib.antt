-- The listing that program `frame` prints.
pub mod Listing
