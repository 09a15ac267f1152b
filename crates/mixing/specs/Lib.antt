-- The whole frame.
pub mod Frame
-- its answers are the calls' own: the claim
pub mod Calls
-- separation both ways round, for the callers: the claim
pub mod Mirror
