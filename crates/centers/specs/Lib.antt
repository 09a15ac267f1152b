-- Centers of copies.
pub mod Centers
