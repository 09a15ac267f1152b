-- `report::report_of` meets its contract: the builder's answer is over the frame's tree (`over-waters`); the nodes read back are the tree's own,
-- so the leaf table is that of the tree; at 13 it is cleared. Assumes nothing.
use mathlib.Core.Path.{ap, ◌∙◌}
use mathlib.Core.List.{List}
use Prim.Native.Nat.{ℕ}
use native.Mathlib.Omega.{arith}
use Rattle.std.proofs.Common.{Some, None}
use Rattle.base.specs.Tables.{over}
use Rattle.pick_lists.specs.Input.{Input, given}
use Rattle.pick_lists.proofs.SoundLists.{sound-lists}
use Rattle.octree.specs.declared.TreeSize.{TreeSize}
use Rattle.octree.specs.Tree.{TreeTables, tree_tables}
use Rattle.tree_tables.proofs.Answering.{built-told}
use Rattle.tree.specs.Tree.{frame_tree}
use Rattle.tree.proofs.Outcomes.{over-waters}
use Rattle.leaf_table.specs.LeafTable.{leaves_from, reported_leaves, dry_leaves}
use Rattle.report.specs.Report.{report_room}
use Rattle.report.proofs.ReportOutcomes.{waters-most, grown, table-over, room_fits, nodes-read, nodes-small, words_small, leaves-cleared, leaves-filled, answer-leaves, answer-refused}
use Rattle.report.proofs.report_of.Goals as goal

pub tree_of-requires : goal.tree_of-requires
tree_of-requires c =
    let input : Input = given c.args.cell c.args.solutes.now c.args.waters.now c.args.starts.now c.args.picks.now in
    let few = waters-most input c.requires.waters_len_bound in
    let count = c.put_waters-m.ensures.count in
    let size = c.put_waters-m.auto.out in
    record { picks_value = c.requires.picks_value; m_in_bounds = (omega arith, omega arith); starts_in_bounds = (c.requires.starts_in_bounds.0, omega arith) }

-- no room
pub returns-in_default : goal.returns-in_default
returns-in_default c =
    let f : Input = given c.args.cell c.args.solutes.now c.args.waters.now c.args.starts.now c.args.picks.now in
    let lent : TreeTables = tree_tables c.args.center_order.now c.args.water_order.now c.args.records.now c.args.boxes.now in
    let left : TreeTables = let l = c.tree_of.new in tree_tables l.center_order l.water_order l.records l.boxes in
    let room : ℕ = report_room lent c.args.leaves.now in
    let put = c.put_waters-m in
    let got = over-waters f None room put.result put.new.out _ lent left put.ensures.count put.ensures.after (c.in_default.ensures.answer, c.in_default.ensures.after) in
    let thirteen = (built-told (frame_tree f) room None got.0).0 in
    record { answer = rw (← thirteen) (answer-refused f 13 (λ z. omega arith)); after = got.1; reported = c.fill.ensures.after (λ y e. e) ∙ leaves-cleared f c.args.leaves.now }

pub density-density-requires : goal.density-density-requires
density-density-requires c =
    let input : Input = given c.args.cell c.args.solutes.now c.args.waters.now c.args.starts.now c.args.picks.now in
    omega (arith, waters-most input c.requires.waters_len_bound, c.put_waters-m.ensures.count)

pub overflow_sub-starts : goal.overflow_sub-starts
overflow_sub-starts c = omega (arith, (sound-lists c.args.solutes.now c.args.starts.now c.args.picks.now c.requires.picks_value).number)

pub put_leaves-counts-requires : goal.put_leaves-counts-requires
put_leaves-counts-requires c =
    let f : Input = given c.args.cell c.args.solutes.now c.args.waters.now c.args.starts.now c.args.picks.now in
    let lent : TreeTables = tree_tables c.args.center_order.now c.args.water_order.now c.args.records.now c.args.boxes.now in
    let left : TreeTables = let l = c.tree_of.new in tree_tables l.center_order l.water_order l.records l.boxes in
    let room : ℕ = report_room lent c.args.leaves.now in
    let put = c.put_waters-m in
    let told =
    grown f room c.in-Some.size lent left
    (over-waters f (Some c.in-Some.size) room put.result put.new.out _ lent left put.ensures.count put.ensures.after (c.in-Some.ensures.answer, c.in-Some.ensures.after)) in
    let count = ap (λ (s : TreeSize). s.nodes) told.size-is in
    let few = waters-most f c.requires.waters_len_bound in
    let many = put.ensures.count in
    let size = put.auto.out in
    let fits = room_fits f room told.fits in
    let small = nodes-small f c.requires.picks_value c.requires.waters_len_bound in
    let words = words_small f c.requires.picks_value c.requires.waters_len_bound lent left told.after in
    let size-r = c.tree_of.auto.records in
    let size-b = c.tree_of.auto.boxes in
    record { m_in_bounds = (omega arith, omega arith); n_in_bounds = (omega arith, omega arith, omega arith, omega arith); by_index = λ k h. words k (omega (arith, h, count)) }

pub returns : goal.returns
returns c =
    let f : Input = given c.args.cell c.args.solutes.now c.args.waters.now c.args.starts.now c.args.picks.now in
    let lent : TreeTables = tree_tables c.args.center_order.now c.args.water_order.now c.args.records.now c.args.boxes.now in
    let left : TreeTables = let l = c.tree_of.new in tree_tables l.center_order l.water_order l.records l.boxes in
    let room : ℕ = report_room lent c.args.leaves.now in
    let put = c.put_waters-m in
    let told =
    grown f room c.in-Some.size lent left
    (over-waters f (Some c.in-Some.size) room put.result put.new.out _ lent left put.ensures.count put.ensures.after (c.in-Some.ensures.answer, c.in-Some.ensures.after)) in
    let leaves = c.put_leaves-counts.ensures in
    let read = nodes-read f c.in-Some.size.nodes lent left (ap (λ (s : TreeSize). s.nodes) told.size-is) told.after in
    let table = table-over f _ _ _ _ put.result c.density-density.ensures c.reference_volume-reference.ensures put.ensures.after put.ensures.count (frame_tree f).nodes in
    let filled = leaves.table ∙ ap (λ (l : List ℕ). over l c.args.leaves.now) (ap (leaves_from f.cell _ _ _ put.result 0) read ∙ table) ∙ leaves-filled f c.args.leaves.now in
    let answer = answer-leaves f _ c.in-Some.size _ _ told.fits told.size-is (leaves.reported ∙ ap reported_leaves read) (leaves.dry ∙ ap dry_leaves read) in
    record { answer = answer; after = told.after; reported = filled }
