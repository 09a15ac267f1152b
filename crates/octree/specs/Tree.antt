-- docs/RULES.md, 'Octree' and 'Tree': the tree of a box, centers and waters, and what building it answers and leaves.
-- Definitions only. Assumes nothing.
use Rattle.std.specs.Prelude.{cond, List, [], ◌∷◌, ◌++◌, ℕ, zero, suc, ◌+◌, ◌-◌, ◌/◌, eqb, ltb, length, replicate, Float}
use Rattle.floats.specs.Constants.{zero32}
use Rattle.base.specs.Refusals.{Refusal, refuse}
use Rattle.base.specs.Tables.{over, first_numbers}
use Rattle.bounds.specs.declared.OctreeBounds.{OctreeBounds}
use Rattle.bounds.specs.Bounds.{child_of}
use Rattle.octants.specs.Octants.{octant_points}
use Rattle.division.specs.Split.{max_depth, splits}
use Rattle.nodes.specs.Nodes.{Node, deepest, records_of, boxes_of}
use Rattle.octree.specs.declared.TreeSize.{TreeSize}

-- ---- subtrees
-- side by side: how many, their nodes in preorder, and the order lists as they arrange them
pub record Subtrees : Type 0 where
  pub roots : ℕ
  pub nodes : List Node
  pub center_order : List ℕ
  pub water_order : List ℕ

-- none: the lists stay
abbrev pub none : List ℕ → List ℕ → Subtrees
none cs ws = record { roots = 0; nodes = []; center_order = cs; water_order = ws }

abbrev pub join : Subtrees → Subtrees → Subtrees
join s t =
    record {
      roots = s.roots + t.roots;
      nodes = s.nodes ++ t.nodes;
      center_order = s.center_order ++ t.center_order;
      water_order = s.water_order ++ t.water_order;
    }

-- ---- the tree
-- from the numbers of its first node, first center and first water, its box, centers cs and waters ws to a subtree
abbrev pub Builder : Type 0
Builder = ℕ → ℕ → ℕ → OctreeBounds → List ℕ → List ℕ → Subtrees

-- octants and frames without points get no nodes
unfoldable pub where_some : Builder → Builder
where_some go at fc fw b cs ws = cond (eqb (length cs + length ws) 0) (none [] []) (go at fc fw b cs ws)

-- a node of depth d, number `at`, above its children
abbrev pub rooted : ℕ → ℕ → ℕ → ℕ → OctreeBounds → List ℕ → List ℕ → Subtrees → Subtrees
rooted d at fc fw b cs ws below =
    record {
      roots = 1;
      nodes =
          record {
            depth = d;
            first_center = fc;
            centers = length cs;
            first_water = fw;
            waters = length ws;
            children = below.roots;
            after = at + 1 + length below.nodes;
            box = b;
          } ∷ below.nodes;
      center_order = below.center_order;
      water_order = below.water_order;
    }

-- over the coordinate lists C and W
module _ (C W : List Float) where
  -- the children by rising octant, from octant 8 - left on: each gets its octant's points of the node's cs and ws
  unfoldable pub children_from : Builder → ℕ → Builder
  children_from go zero at fc fw b cs ws = none [] []
  children_from go (suc left) at fc fw b cs ws =
      let o : ℕ = 7 - left in
      let c : List ℕ = octant_points C b.center o cs in
      let w : List ℕ = octant_points W b.center o ws in
      let s : Subtrees = where_some go at fc fw (child_of b o) c w in
      join s (children_from go left (at + length s.nodes) (fc + length c) (fw + length w) b cs ws)

  -- the subtree at a box, `levels` above depth 14
  unfoldable pub subtree : ℕ → Builder
  subtree zero at fc fw b cs ws = rooted max_depth at fc fw b cs ws (none cs ws)
  subtree (suc levels) at fc fw b cs ws =
      rooted (max_depth - suc levels) at fc fw b cs ws
      (cond (splits b cs) (children_from (subtree levels) 8 (at + 1) fc fw b cs ws) (none cs ws))

-- the numbers of a coordinate list's points, as an order list starts
abbrev pub point_numbers : List Float → List ℕ
point_numbers points = first_numbers (length points / 3)

-- the tree of a box with centers C and waters W
unfoldable pub tree_of : OctreeBounds → List Float → List Float → Subtrees
tree_of b C W = where_some (subtree C W max_depth) 0 0 0 b (point_numbers C) (point_numbers W)

-- the number of nodes, and the greatest depth
abbrev pub size_of : List Node → TreeSize
size_of vs = record { nodes = length vs; depth = deepest vs }

-- 13 where the nodes exceed the room
abbrev pub room_refusal : ℕ → Subtrees → Refusal
room_refusal room g = refuse 13 (ltb room (length g.nodes))

-- ---- the tables afterwards
pub record TreeTables : Type 0 where
  pub center_order : List ℕ
  pub water_order : List ℕ
  pub records : List ℕ
  pub boxes : List Float

abbrev pub tree_tables : List ℕ → List ℕ → List ℕ → List Float → TreeTables
tree_tables center_order water_order records boxes = record { center_order = center_order; water_order = water_order; records = records; boxes = boxes }

-- by the number that is answered: x at success, y at 13, z at any other refusal
abbrev pub by_number : {A : Type 0} → ℕ → A → A → A → A
by_number r x y z = cond (eqb r 0) x (cond (eqb r 13) y z)

-- the tables t of n centers and m waters after the answer of number r: the tree's order lists and nodes; at 13 order lists 0, 1, 2, .. and node
-- tables of zeros; at any other refusal as they were
unfoldable pub tables_after : ℕ → Subtrees → ℕ → ℕ → TreeTables → TreeTables
tables_after r g n m t =
    by_number r
    (tree_tables (over g.center_order t.center_order) (over g.water_order t.water_order) (over (records_of g.nodes) t.records) (over (boxes_of g.nodes) t.boxes))
    (tree_tables (over (first_numbers n) t.center_order) (over (first_numbers m) t.water_order) (replicate (length t.records) 0) (replicate (length t.boxes) zero32))
    t
