-- The laws that the proofs of this crate cite.
-- what the whole frame answers and leaves, test by test
pub mod Outcomes
-- what the tests establish for the cores, and what these leave
pub mod Tested
-- what each step of the code knows
pub mod Steps
-- a frame with an answer has passed every test, and the leaf table holds every leaf that the answer counts
pub mod Answered
-- the frame's answers are those of the calls that it stands for
pub mod Calls
-- separation both ways round, for the callers
pub mod Mirror
-- and where that law ends
pub mod Examples
