-- What only contracts of inner functions cite. Definitions only. Assumes nothing.
use Rattle.std.specs.Prelude.{ℕ, ◌+◌, ◌*◌, ◌≤◌, ◌<◌}
use Rattle.base.specs.Limits.{max_atoms}
use Rattle.division.specs.Split.{max_depth}

-- what `put_node` asks: the tables' lengths and the words of the record
pub record NodeFits (recs boxs at depth fc nc fw nw kids after : ℕ) : Type 0 where
  pub fits-r : at * 8 + 8 ≤ recs
  pub fits-b : at * 6 + 6 ≤ boxs
  pub small-d : depth ≤ max_depth
  pub small-fc : fc ≤ max_atoms
  pub small-nc : nc ≤ max_atoms
  pub small-fw : fw ≤ max_atoms
  pub small-nw : nw ≤ max_atoms
  pub small-k : kids ≤ 8
  pub small-a : after < 4294967296
