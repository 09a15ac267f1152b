-- The laws that the proofs of this crate and of the layers above it cite.
-- selections of a list, and a list copied
pub mod Selecting
-- lists one after the other by octant
pub mod Arranging
-- the counting sort by octant
pub mod Sorting
