-- The laws that the proofs of this crate and of the layers above it cite.
-- searches through lists, an element at a time
pub mod Any
-- separation both ways round
pub mod Mirror
-- and where that law ends
pub mod Examples
