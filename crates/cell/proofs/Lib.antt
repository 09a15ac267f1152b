-- The laws that the proofs of this crate and of the layers above it cite.
-- bounds through wrap, minimum image, squared distance and volume, for points of any exponent
pub mod Finite
-- the bounds of a reach, as magnitudes
pub mod Reach
-- separation both ways round
pub mod Mirror
-- the checked frames (docs/RULES.md) on this layer, as the definitions compute them
pub mod Examples
