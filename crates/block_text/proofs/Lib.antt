-- The laws that the proofs of this crate cite.
-- a block's parts fit the program's tables
pub mod Fits
-- every text fits the program's buffer, and input past the limit changes nothing
pub mod Room
