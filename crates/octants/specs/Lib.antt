-- The points of an octant, and what the contracts of the counting sort cite.
pub mod Octants
pub mod Inner
