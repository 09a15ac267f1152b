-- The laws that the proofs of this crate cite.
-- pieces of text written one after the other
pub mod Pieces
-- how many bytes the lines have
pub mod Lengths
-- the leaves' lines, a leaf at a time
pub mod Leaves
-- a line written a word at a time
pub mod Words
-- what a call that writes a text owes
pub mod Answers
-- the listing (docs/RULES.md), as the definitions give it
pub mod Examples
