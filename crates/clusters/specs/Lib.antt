-- Clusters of touching copies: what Open, Row and Close answer and leave, the contact graph and the order rule.
pub mod Answers
pub mod Graph
pub mod Order
