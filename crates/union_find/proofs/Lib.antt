-- Laws that belong to no one function.
-- how far a copy is from its root; soundness as a record, and that the test of `specs/` says the same
pub mod Forest
-- a chain has fewer steps than there are copies: whoever reaches a root reaches it in n steps
pub mod Trails
-- the loop of `find_root` that shortens a chain writes what the Rust's recursion writes
pub mod Shortening
-- shortening keeps every root
pub mod Roots
-- what a join leaves: the length, soundness and each copy's root
pub mod Joins
-- the sizes of the sets, counted copy by copy
pub mod Sizes
