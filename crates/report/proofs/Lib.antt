-- What holds of the box of every node of a tree.
pub mod NodeBoxes
-- Nodes read back from the node tables of a tree are its nodes.
pub mod ReadBack
-- What Report finds in the tables that Tree filled, and what it answers and leaves.
pub mod ReportOutcomes
-- The boxes of a tree stay within the cell's bounds.
pub mod BoxBounds
-- No ratio that Report writes has the bits 0.
pub mod RatioBits
-- The report of the listed frame (docs/RULES.md), by the definitions.
pub mod Examples
