-- The laws that the proofs of this crate cite.
-- when bytes are a block, one test at a time, and what a block's counts then are
pub mod Header
-- words and floats of the bytes read into a table, one at a time
pub mod Reading
-- the answer and the tables that read_block owes, by its refusal
pub mod Answers
-- the listed frame (docs/RULES.md) as a block, as the definitions read it
pub mod Examples
