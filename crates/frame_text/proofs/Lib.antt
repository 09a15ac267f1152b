-- The laws that the proofs of this crate cite.
-- the program's tables, the text of the whole frame's answer, and its leaf table
pub mod Texts
