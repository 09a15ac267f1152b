-- docs/RULES.md, Tree: as dispersion, then 7 for order lists, then 13. Definitions only. Assumes nothing.
use Rattle.std.specs.Prelude.{◌||◌, List, [], ◌∷◌, ◌++◌, ℕ, min, ◌/◌, ltb, length, Result, Ok, Err}
use Rattle.base.specs.declared.Refused.{Refused}
use Rattle.base.specs.Refusals.{Refusal, refuse, first_refusal, refused}
use Rattle.base.specs.Tables.{unless_refused}
use Rattle.pick_lists.specs.Sound.{copies}
use Rattle.pick_lists.specs.Input.{Input, input_refusals}
use Rattle.bounds.specs.Bounds.{cell_box}
use Rattle.octree.specs.declared.TreeSize.{TreeSize}
use Rattle.octree.specs.Tree.{Subtrees, tree_of, size_of, room_refusal, TreeTables, tables_after}
use Rattle.points.specs.Points.{tree_centers, tree_waters, finite_waters}

-- the tree of a call's input
unfoldable pub frame_tree : Input → Subtrees
unfolding tree_of tree_centers tree_waters
frame_tree f = tree_of (cell_box f.cell) (tree_centers f) (tree_waters f.cell f.waters)

-- 7: one word for each copy, one for each finite water
unfoldable pub order_refusal : Input → List ℕ → List ℕ → Refusal
unfolding finite_waters
order_refusal f center_order water_order = refuse 7 (ltb (length center_order) (copies f.starts) || ltb (length water_order) (finite_waters f.waters))

-- what is tested before any table is written: 1, 2, 3, 4, 15, 8, 7
unfoldable pub test_refusals : Input → List ℕ → List ℕ → List Refusal
unfolding input_refusals order_refusal
test_refusals f center_order water_order = input_refusals f ++ (order_refusal f center_order water_order ∷ [])

-- 1, 2, 3, 4, 15, 8, 7, 13, where the smallest node table has room for so many records
unfoldable pub refusal_in : ℕ → Input → TreeTables → ℕ
unfolding test_refusals frame_tree first_refusal
refusal_in room f t = first_refusal (test_refusals f t.center_order t.water_order ++ (room_refusal room (frame_tree f) ∷ []))

-- the whole records of the smaller of two node tables
abbrev pub whole_records : TreeTables → ℕ
whole_records t = min (length t.records / 8) (length t.boxes / 6)

-- ---- Tree
unfoldable pub tree_refusal : Input → TreeTables → ℕ
unfolding refusal_in
tree_refusal f t = refusal_in (whole_records t) f t

-- the number of nodes and the greatest depth, or the refusal
unfoldable pub tree_answer : Input → TreeTables → Result TreeSize Refused
unfolding tree_refusal frame_tree
tree_answer f t = unless_refused (tree_refusal f t) (Ok (size_of (frame_tree f).nodes)) (refused (tree_refusal f t))

-- the values of each case of an answer
abbrev pub tree_values : {E : Type 0} → Result TreeSize E → List ℕ
tree_values (Ok s) = s.nodes ∷ s.depth ∷ []
tree_values (Err e) = []

-- the tables after the answer of number r of Tree or Report
unfoldable pub input_after : ℕ → Input → TreeTables → TreeTables
unfolding tables_after frame_tree
input_after r f t = tables_after r (frame_tree f) (copies f.starts) (finite_waters f.waters) t

unfoldable pub tree_after : Input → TreeTables → TreeTables
unfolding tree_refusal input_after
tree_after f t = input_after (tree_refusal f t) f t
