-- The laws that the proofs of this crate cite.
-- counts that fit a word
pub mod Small
-- the number of a call's answer
pub mod Numbers
