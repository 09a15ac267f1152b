-- The laws that the proofs of this crate and of the layers above it cite.
-- from the builder's answer at the root to the whole tree's, and what that tells a caller
pub mod Answering
