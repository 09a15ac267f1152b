-- The block of bytes that holds a frame.
pub mod Block
