-- The laws that the proofs of this crate and of the layers above it cite.
-- the node tables: each word by its index, lengths, the greatest depth
pub mod NodeTables
