-- The leaf table, node by node.
pub mod LeafList
