-- What each `return` of the tests answers, and what input that passes them has.
pub mod TreeRefusals
-- What a call answers and leaves: order lists of which a part was lent, the tree over written points, and Tree's answer.
pub mod Outcomes
