-- The laws that the proofs of this crate cite.
-- how many digits a number has
pub mod Numerals
-- a word written with the byte after it, and digits backwards
pub mod Writing
-- small texts, as the definitions give them
pub mod Examples
