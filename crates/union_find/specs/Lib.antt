-- Sets of copies by parents: roots, joins, soundness, and the largest set.
pub mod Parents
-- what only contracts of inner functions cite
pub mod Inner
