-- The numbers of a leaf of the report: shell, density, occupancy and partition score.
pub mod Leaf
