-- The laws that the proofs of this crate and of the layers above it cite.
-- ---- the tree
-- subtrees side by side, and what stands below a node by the octants that it visits
pub mod Children
-- how many nodes a tree has, what holds of each, and how long the order lists are
pub mod Counting
-- ---- the builder
-- a child's stretch of an order list
pub mod Stretches
-- the octant loop
pub mod Growing
-- the end of the loop, and what an answer tells
pub mod Planting
-- ---- the listed frame (docs/RULES.md), by the definitions
pub mod Examples
