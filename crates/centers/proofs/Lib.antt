-- The laws that the proofs of this crate and of the layers above it cite.
-- the sum over the picks of a copy, a term at a time
pub mod Sums
-- the list of centers: its length, each copy's center at its place, and how it is written
pub mod CenterList
-- what each `return` of Centers answers and leaves
pub mod Answers
-- within the limits that a call tests, every center and every squared distance of two is finite
pub mod FiniteCenters
