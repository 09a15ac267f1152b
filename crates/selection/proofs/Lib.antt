-- The laws that the proofs of this crate and of the layers above it cite.
-- what is picked of a copy, an index or an atom at a time, and how much
pub mod Picked
-- the kept copies, a chunk at a time
pub mod Copies
-- both pick lists written a copy at a time
pub mod Writing
-- Select's refusals, the lists' first, and what each return answers and leaves
pub mod SelectRefusals
-- what Select writes is sound
pub mod SoundSelect
-- the checked frames (docs/RULES.md) on this layer, worked out
pub mod Examples
