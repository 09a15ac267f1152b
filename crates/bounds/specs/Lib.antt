-- Boxes, and the octants of points.
pub mod Bounds
