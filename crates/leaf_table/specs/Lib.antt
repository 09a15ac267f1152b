-- The leaf table: the words of a leaf, the leaves of a list of nodes; and nodes read back from the node tables.
pub mod LeafTable
pub mod Inner
