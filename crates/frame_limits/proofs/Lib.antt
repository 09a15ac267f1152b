-- The laws that the proofs of this crate and of the layers above it cite.
-- the frame's refusals as one chain of tests, and what a frame with none has
pub mod FrameRefusals
-- within the limits that a call tests, the geometry is finite
pub mod FiniteFrame
