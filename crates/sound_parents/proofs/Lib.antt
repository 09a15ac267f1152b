-- Laws that belong to no one function.
-- a walk that stamps its copies ends at a root, at a copy known to reach one, or in a cycle
pub mod Climbs
