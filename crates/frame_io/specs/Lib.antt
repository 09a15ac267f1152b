-- The input of program `frame`.
pub mod Input
