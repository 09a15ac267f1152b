-- The laws that the proofs of this crate and of the layers above it cite.
-- the tests of sound pick lists, an element at a time, and what sound pick lists have
pub mod SoundLists
-- the refusals that every call on pick lists makes first
pub mod InputRefusals
-- the picks of one copy of sound pick lists
pub mod CopyPicks
