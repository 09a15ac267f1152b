-- Centers wrapped in place, point by point.
pub mod Wrapping
-- The finite waters, counted and written, point by point.
pub mod WaterList
