-- the starred frames, worked out
pub mod Worked
