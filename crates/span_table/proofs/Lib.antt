-- The laws that the proofs of this crate and of the layers above it cite.
-- one axis of the span table, a copy at a time
pub mod Filling
-- the whole span table
pub mod Table
-- the flags of a copy against the later ones
pub mod Flags
-- copies whose boxes are kept apart
pub mod Apart
