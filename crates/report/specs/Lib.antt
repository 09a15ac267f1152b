-- The leaf report: the leaf table of a frame's tree, and what Report answers and leaves.
pub mod Report
-- what only contracts of inner functions cite
pub mod Inner
