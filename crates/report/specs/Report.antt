-- docs/RULES.md, 'Leaf report' and Report: the leaf table of a frame's tree, and what Report answers and leaves. Definitions only. Assumes
-- nothing.
use Rattle.std.specs.Prelude.{List, [], ◌∷◌, ℕ, ◌/◌, min, length, replicate, Result, Ok, Err}
use Rattle.base.specs.declared.Refused.{Refused}
use Rattle.base.specs.Refusals.{refused}
use Rattle.base.specs.Tables.{over, unless_refused}
use Rattle.pick_lists.specs.Sound.{copies}
use Rattle.pick_lists.specs.Input.{Input}
use Rattle.nodes.specs.Nodes.{Node, deepest}
use Rattle.points.specs.Points.{tree_waters}
use Rattle.octree.specs.Tree.{TreeTables, by_number}
use Rattle.tree.specs.Tree.{frame_tree, refusal_in, whole_records, input_after}
use Rattle.leaf.specs.Leaf.{density_of, reference_volume}
use Rattle.leaf_table.specs.LeafTable.{leaves_from, reported_leaves, dry_leaves}
use Rattle.report.specs.declared.ReportCounts.{ReportCounts}

-- the leaf table of a list of nodes: by the input's cell, copies and wrapped finite waters
unfoldable pub leaf_table : Input → List Node → List ℕ
unfolding leaves_from density_of reference_volume tree_waters
leaf_table f vs =
    let ws = tree_waters f.cell f.waters in
    let m = length ws / 3 in
    leaves_from f.cell (density_of f.cell m) (reference_volume f.cell (copies f.starts)) ws m 0 vs

-- ---- Report
-- the whole records of the smallest of three node tables
abbrev pub report_room : TreeTables → List ℕ → ℕ
report_room t leaves = min (whole_records t) (length leaves / 8)

-- Tree's refusals, with the leaf table as a third node table for 13
unfoldable pub report_refusal : Input → TreeTables → List ℕ → ℕ
unfolding refusal_in
report_refusal f t leaves = refusal_in (report_room t leaves) f t

-- nodes, greatest depth, reported leaves and dry leaves of the tree, or the refusal r
unfoldable pub answer_by : ℕ → Input → Result ReportCounts Refused
unfolding frame_tree reported_leaves dry_leaves
answer_by r f =
    let vs = (frame_tree f).nodes in
    unless_refused r (Ok (record { nodes = length vs; depth = deepest vs; leaves = reported_leaves vs; dry = dry_leaves vs })) (refused r)

unfoldable pub report_answer : Input → TreeTables → List ℕ → Result ReportCounts Refused
unfolding report_refusal answer_by
report_answer f t leaves = answer_by (report_refusal f t leaves) f

-- the values of each case of an answer
abbrev pub report_values : {E : Type 0} → Result ReportCounts E → List ℕ
report_values (Ok c) = c.nodes ∷ c.depth ∷ c.leaves ∷ c.dry ∷ []
report_values (Err e) = []

-- the leaf table after the answer of number r
unfoldable pub leaves_by : ℕ → Input → List ℕ → List ℕ
unfolding leaf_table frame_tree
leaves_by r f leaves = by_number r (over (leaf_table f (frame_tree f).nodes) leaves) (replicate (length leaves) 0) leaves

-- the tables afterwards
unfoldable pub report_after : Input → TreeTables → List ℕ → TreeTables
unfolding report_refusal input_after
report_after f t leaves = input_after (report_refusal f t leaves) f t

unfoldable pub leaves_after : Input → TreeTables → List ℕ → List ℕ
unfolding report_refusal leaves_by
leaves_after f t leaves = leaves_by (report_refusal f t leaves) f leaves
