-- The octree of a frame: the tree and what building it leaves; what only contracts of inner functions cite.
pub mod Tree
pub mod Inner
