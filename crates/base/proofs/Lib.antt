-- The laws that every crate's proofs rest on.
-- tests: two at once, a test as 1 or 0
pub mod Tests
-- the first refusal of a list: hit, skip, none, two lists joined; what a refusal leaves
pub mod FirstRefusal
-- a table with a list written into it, at an entry or from its start
pub mod Placing
-- loops that write a list into a table, an entry or a list at a time
pub mod Filling
-- tests, counts, sums and the greatest over the numbers below n
pub mod Ranges
