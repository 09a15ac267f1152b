-- Laws that belong to no one function.
-- every row in rising order: each is accepted
pub mod Scans
