-- Tree: what it answers and leaves.
pub mod Tree
-- what only contracts of inner functions cite
pub mod Inner
