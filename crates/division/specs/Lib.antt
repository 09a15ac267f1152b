-- When a node splits, and what the contracts of dividing it cite.
pub mod Split
pub mod Inner
