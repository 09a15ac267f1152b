-- The laws that the proofs of this crate and of the layers above it cite.
-- an axis of a tested cell: its extent, turns and images are finite, and images keep the order where turns do
pub mod Axes
-- the gate theorem, at any turn: what passes the tests at its ends rejects all that lies between them
pub mod Sure
-- the images of both ends of some separations stand for all of them
pub mod Images
-- a square above the cutoff's decides against the whole distance
pub mod Squares
-- a gate that rejects the ends of some separations rejects each of them
pub mod Ends
-- separations that take off the same number of extents
pub mod Levels
-- the tests of one axis reject alike
pub mod Rejection
-- two atoms
pub mod Atoms
