-- docs/RULES.md, 'Octree': a node, its record and its box; the node tables of a list of nodes, and the order lists as they start.
-- Definitions only. Assumes nothing.
use Rattle.std.specs.Prelude.{List, [], ◌∷◌, ◌++◌, ℕ, max, Float}
use Rattle.bounds.specs.declared.OctreeBounds.{OctreeBounds}

pub record Node : Type 0 where
  pub depth : ℕ
  pub first_center : ℕ
  pub centers : ℕ
  pub first_water : ℕ
  pub waters : ℕ
  pub children : ℕ
  -- the node after its subtree
  pub after : ℕ
  pub box : OctreeBounds

-- the greatest depth, 0 without nodes
unfoldable pub deepest : List Node → ℕ
deepest [] = 0
deepest (n ∷ ns) = max n.depth (deepest ns)

-- ---- the node tables
-- eight words: depth, first center, centers, first water, waters, children, node after its subtree, 0
abbrev pub record_of : Node → List ℕ
record_of n = n.depth ∷ n.first_center ∷ n.centers ∷ n.first_water ∷ n.waters ∷ n.children ∷ n.after ∷ 0 ∷ []

-- six floats: low, high
abbrev pub corners_of : OctreeBounds → List Float
corners_of b = b.low.x ∷ b.low.y ∷ b.low.z ∷ b.high.x ∷ b.high.y ∷ b.high.z ∷ []

unfoldable pub records_of : List Node → List ℕ
records_of [] = []
records_of (n ∷ ns) = record_of n ++ records_of ns

unfoldable pub boxes_of : List Node → List Float
boxes_of [] = []
boxes_of (n ∷ ns) = corners_of n.box ++ boxes_of ns
