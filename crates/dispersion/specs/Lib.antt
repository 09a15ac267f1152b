-- How evenly the centers of copies are spread.
pub mod Dispersion
