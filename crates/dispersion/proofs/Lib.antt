-- The laws that the proofs of this crate and of the layers above it cite.
-- the sums of squared distances that the loops make, a term at a time
pub mod Sums
-- the score reads no more than its centers; its cases by their tests
pub mod ScoreList
-- what each `return` of Dispersion answers
pub mod Answers
-- results without NaN and minus sign
pub mod PlainValues
-- within the limits that a call tests the score is a number from 0 to 1
pub mod ScoreRange
-- the checked frames (docs/RULES.md) on this layer, as the definitions compute them
pub mod Examples
