-- The cell of a frame.
pub mod Cell
-- the bounds of a reach
pub mod Reach
-- what only contracts of inner functions cite
pub mod Inner
