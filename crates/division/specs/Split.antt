-- docs/RULES.md, 'Octree': when a node splits. Definitions only. Assumes nothing.
use Rattle.std.specs.Prelude.{Bool, ◌&&◌, List, ℕ, ltb, length}
use Rattle.bounds.specs.declared.OctreeBounds.{OctreeBounds}
use Rattle.bounds.specs.Bounds.{wide_box}

-- no node of depth 14 splits; above it one does if its widest side is over 0.75 and it has more than one center
abbrev pub max_depth : ℕ
max_depth = 14

abbrev pub splits : OctreeBounds → List ℕ → Bool
splits b cs = ltb 1 (length cs) && wide_box b
