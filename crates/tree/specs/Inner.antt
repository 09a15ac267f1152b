-- What only contracts of inner functions cite: trees over the first points of coordinate lists. Definitions only. Assumes nothing.
use Rattle.std.specs.Prelude.{List, ℕ, ◌*◌, take, Float}
use Rattle.cell.specs.declared.Cell.{Cell}
use Rattle.pick_lists.specs.Input.{Input}
use Rattle.bounds.specs.Bounds.{cell_box}
use Rattle.octree.specs.Tree.{Subtrees, tree_of}
use Rattle.points.specs.Points.{tree_centers}

-- over the first n centers and the first m waters
unfoldable pub tree_over : Cell → List Float → ℕ → List Float → ℕ → Subtrees
unfolding tree_of
tree_over c centers n waters m = tree_of (cell_box c) (take (n * 3) centers) (take (m * 3) waters)

-- over the centers of the copies and the first m of a list of wrapped waters
unfoldable pub tree_on : Input → List Float → ℕ → Subtrees
unfolding tree_of tree_centers
tree_on f wrapped m = tree_of (cell_box f.cell) (tree_centers f) (take (m * 3) wrapped)
