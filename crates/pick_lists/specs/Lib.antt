-- The pick lists: when they are sound, and what every call on them refuses first.
pub mod Sound
pub mod Input
-- what only contracts of inner functions cite
pub mod Inner
