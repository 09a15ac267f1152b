-- What program `frame` prints for a frame.
pub mod Texts
