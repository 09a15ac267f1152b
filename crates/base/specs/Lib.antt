-- What every crate's definitions rest on.
-- the limits on numbers
pub mod Limits
-- tables after a call
pub mod Tables
-- the order of refusals
pub mod Refusals
-- tests, counts, sums and the greatest over the numbers below n
pub mod Range
