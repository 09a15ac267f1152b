-- The points that a tree is built over.
pub mod Points
