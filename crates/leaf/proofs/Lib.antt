-- The waters in a leaf's shell, counted one after the other.
pub mod ShellCount
-- What is expected in a box, and in the box with its shell, is finite.
pub mod ExpectedBounds
-- No ratio has the bits 0.
pub mod Ratios
