-- `tree::tree` meets its contract: a refusal of the tests leaves every table as it was; otherwise the builder's answer is Tree's, over the
-- finite waters at the start of the local array (`over-waters`). Assumes nothing.
use mathlib.Core.Path.{◌≡◌, ap, ◌∙◌}
use Prim.Native.Nat.{ℕ, ◌/◌}
use native.Mathlib.Omega.{arith}
use lib.ListN.{length}
use Rattle.std.proofs.lemmas.Result.{err_from_is_err_and}
use Rattle.base.proofs.FirstRefusal.{accepted-zero}
use Rattle.pick_lists.specs.Input.{Input, given}
use Rattle.octree.specs.Inner.{tree_room, built_answer}
use Rattle.octree.specs.Tree.{TreeTables, tree_tables}
use Rattle.tree.specs.Tree.{frame_tree, whole_records}
use Rattle.points.proofs.WaterList.{waters-length, waters-few}
use Rattle.tree.proofs.TreeRefusals.{tested}
use Rattle.tree.proofs.Outcomes.{tree-built, tree-refused, over-waters}
use Rattle.tree.proofs.tree.Goals as goal

pub returns-in_err-refusal : goal.returns-in_err-refusal
returns-in_err-refusal c =
    let input : Input = given c.args.cell c.args.solutes.now c.args.waters.now c.args.starts.now c.args.picks.now in
    let lent : TreeTables = tree_tables c.args.center_order.now c.args.water_order.now c.args.records.now c.args.boxes.now in
    let p = err_from_is_err_and c.from_residual.result c.from_residual.ensures.1 in
    let r = tree-refused input lent _ c.in_err-refusal.ensures in record { answer = rw (p.1, p.2) r.0; after = r.1 }

pub put_waters-m-requires : goal.put_waters-m-requires
put_waters-m-requires c = omega (arith, (tested _ _ _ (accepted-zero _ c.in_ok-refusal.ensures)).waters-few)

pub tree_of-requires : goal.tree_of-requires
tree_of-requires c =
    let ok = tested _ _ _ (accepted-zero _ c.in_ok-refusal.ensures) in
    let put = c.put_waters-m in
    let size = put.auto.out in
    let m = put.ensures.count in
    let three = waters-length c.args.cell c.args.waters.now in
    let few = waters-few c.args.cell c.args.waters.now in
    record { picks_value = ok.sound; m_in_bounds = (omega (arith, ok.waters-few), omega (arith, ok.waters-few)); starts_in_bounds = (ok.centers-fit, omega (arith, ok.waters-fit)) }

pub returns : goal.returns
returns c =
    let lent : TreeTables = tree_tables c.args.center_order.now c.args.water_order.now c.args.records.now c.args.boxes.now in
    let f : Input = given c.args.cell c.args.solutes.now c.args.waters.now c.args.starts.now c.args.picks.now in
    let back : TreeTables = let l = c.tree_of.new in tree_tables l.center_order l.water_order l.records l.boxes in
    let put = c.put_waters-m in
    let limited = tree_room c.args.records.now c.args.boxes.now (length c.args.records.now / 8) in
    let same-room : limited ≡ whole_records lent = omega arith in
    let got = over-waters f c.tree_of.result limited put.result put.new.out _ lent back put.ensures.count put.ensures.after (c.tree_of.ensures.answer, c.tree_of.ensures.after) in
    let r = tree-built f lent c.tree_of.result back (accepted-zero _ c.in_ok-refusal.ensures) (got.0 ∙ ap (λ (k : ℕ). built_answer k (frame_tree f)) same-room, got.1) in
    record { answer = c.ok_or.ensures.value ∙ r.0; after = r.1 }
