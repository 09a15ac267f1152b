-- A tree's nodes and their tables.
pub mod Nodes
-- what only contracts of inner functions cite
pub mod Inner
