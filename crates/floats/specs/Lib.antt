-- Numbers: what each operation gives, by definitions that compute, and the standard's own words for them as relations.
pub mod Constants
pub mod Whole
pub mod Convert
pub mod Root
pub mod Order
pub mod Standard
-- what only contracts of inner functions cite
pub mod Inner
