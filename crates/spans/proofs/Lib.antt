-- The laws that the proofs of this crate and of the layers above it cite.
-- the least and the greatest coordinate of some picks
pub mod Least
-- boxes that a test keeps apart
pub mod Between
-- boxes on a level
pub mod OnLevel
-- the first number that fails a test
pub mod Past
-- a list in parts
pub mod Parts
