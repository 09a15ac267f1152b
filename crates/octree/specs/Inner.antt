-- What only contracts of inner functions cite: what the subtree builder asks and leaves, and what building a whole tree asks and answers.
-- Definitions only. Assumes nothing.
use Rattle.std.specs.Prelude.{cond, Option, Some, None, ◌⊎◌, List, ◌≡◌, ℕ, ◌+◌, ◌*◌, ◌/◌, ◌≤◌, ◌<◌, min, length, Float}
use Rattle.base.specs.Limits.{max_atoms}
use Rattle.base.specs.Tables.{placed}
use Rattle.division.specs.Split.{max_depth}
use Rattle.nodes.specs.Nodes.{deepest, records_of, boxes_of}
use Rattle.octree.specs.declared.TreeSize.{TreeSize}
use Rattle.octree.specs.Tree.{Subtrees, size_of, room_refusal}

-- what `build` asks: its depth, the order lists' lengths and first numbers, the tables' lengths, the room and the scratch lists' lengths
pub record Ready (depth nc nw fc fw recs boxs room scratch codes : ℕ) : Type 0 where
  pub depth-ok : depth ≤ max_depth
  pub few-c : fc + nc ≤ max_atoms
  pub few-w : fw + nw ≤ max_atoms
  pub room-r : room * 8 ≤ recs
  pub room-b : room * 6 ≤ boxs
  pub room-ok : room < 4294967296
  pub scratch-c : nc ≤ scratch
  pub scratch-w : nw ≤ scratch
  pub codes-c : nc ≤ codes
  pub codes-w : nw ≤ codes

-- what `build` leaves where its subtree g, from node `at` on, has room
pub record Filled (g : Subtrees) (at : ℕ) (r : Option TreeSize) (cs ws rec₀ rec : List ℕ) (box₀ box : List Float) : Type 0 where
  pub answer : r ≡ Some (record { nodes = at + length g.nodes; depth = deepest g.nodes })
  pub order-c : cs ≡ g.center_order
  pub order-w : ws ≡ g.water_order
  pub table : rec ≡ placed (at * 8) (records_of g.nodes) rec₀
  pub corners : box ≡ placed (at * 6) (boxes_of g.nodes) box₀

-- ... and the answer where it has not
abbrev pub Planted : ℕ → Subtrees → ℕ → Option TreeSize → List ℕ → List ℕ → List ℕ → List ℕ → List Float → List Float → Type 0
Planted room g at r cs ws rec₀ rec box₀ box =
    ((at + length g.nodes ≤ room) × Filled g at r cs ws rec₀ rec box₀ box) ⊎ ((room < at + length g.nodes) × (r ≡ None))

-- ---- the whole tree
-- an order list with a place for each point, within the limit
pub record Numbered (points : List Float) (order : List ℕ) : Type 0 where
  pub few : length order ≤ max_atoms
  pub all : length points ≡ 3 * length order

-- the whole records of the smallest node table; `limit` is the room in a further one
abbrev pub tree_room : List ℕ → List Float → ℕ → ℕ
tree_room records boxes limit = min (min (length records / 8) (length boxes / 6)) limit

-- the size of the tree, or 13
abbrev pub built_answer : ℕ → Subtrees → Option TreeSize
built_answer room g = cond (room_refusal room g).holds None (Some (size_of g.nodes))

-- the number of each case of an answer
abbrev pub built_number : Option TreeSize → ℕ
built_number (Some s) = 0
built_number None = 13
