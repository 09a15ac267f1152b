-- The laws that the proofs of this crate cite.
-- how many octants a node visits, and what becomes of its lists
pub mod Dividing
