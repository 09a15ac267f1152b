-- The limits of a frame, and the refusals that ask only for its lists and cell.
pub mod Limits
