-- `tree::tree_over` meets its contract: the parts of the lists that hold points are lent to the builder, and what comes back stands
-- before the rest of each order list (`parts-back`). Assumes nothing.
use mathlib.Core.Path.{◌≡◌, sym}
use Prim.Native.Nat.{◌*◌}
use native.Mathlib.Omega.{arith}
use lib.ListN.{length, take}
use lib.Seq.{length-take-le}
use Rattle.bounds.specs.Bounds.{cell_box}
use Rattle.octree.specs.Tree.{tree_of, tree_tables}
use Rattle.octree.specs.Inner.{tree_room}
use Rattle.tree.specs.Inner.{tree_over}
use Rattle.tree.proofs.Outcomes.{parts-back}
use Rattle.tree.proofs.tree_over.Goals as goal

pub slice_bounds-build_tree-end : goal.slice_bounds-build_tree-end
slice_bounds-build_tree-end c = sym (length-take-le (c.args.n * 3) c.args.centers.now (omega (arith, c.requires)))

pub slice_bounds-build_tree-end-2 : goal.slice_bounds-build_tree-end-2
slice_bounds-build_tree-end-2 c = sym (length-take-le (c.args.m * 3) c.args.waters.now (omega (arith, c.requires)))

pub slice_bounds-build_tree-end-4 : goal.slice_bounds-build_tree-end-4
slice_bounds-build_tree-end-4 c = sym (length-take-le c.args.n c.args.center_order.now (omega (arith, c.requires)))

pub slice_bounds-build_tree-end-6 : goal.slice_bounds-build_tree-end-6
slice_bounds-build_tree-end-6 c = sym (length-take-le c.args.m c.args.water_order.now (omega (arith, c.requires)))

pub build_tree-requires : goal.build_tree-requires
build_tree-requires c =
    let nc : length (take (c.args.n * 3) c.args.centers.now) ≡ c.args.n * 3 = length-take-le (c.args.n * 3) c.args.centers.now (omega (arith, c.requires)) in
    let nw : length (take (c.args.m * 3) c.args.waters.now) ≡ c.args.m * 3 = length-take-le (c.args.m * 3) c.args.waters.now (omega (arith, c.requires)) in
    let oc : length (take c.args.n c.args.center_order.now) ≡ c.args.n = length-take-le c.args.n c.args.center_order.now (omega (arith, c.requires)) in
    let ow : length (take c.args.m c.args.water_order.now) ≡ c.args.m = length-take-le c.args.m c.args.water_order.now (omega (arith, c.requires)) in
    (record { few = omega (arith, c.requires); all = omega arith }, record { few = omega (arith, c.requires); all = omega arith })

pub returns : goal.returns
unfolding tree_over
returns c =
    let r =
    parts-back
    (tree_of (cell_box c.args.cell) (take (c.args.n * 3) c.args.centers.now) (take (c.args.m * 3) c.args.waters.now))
    c.args.n
    c.args.m
    (tree_tables c.args.center_order.now c.args.water_order.now c.args.records.now c.args.boxes.now)
    c.requires.n_in_bounds_2.0
    c.requires.n_in_bounds_2.1
    c.build_tree.new.center_order
    c.build_tree.new.water_order
    c.build_tree.new.records
    c.build_tree.new.boxes
    c.build_tree.auto.center_order
    c.build_tree.auto.water_order
    c.build_tree.result
    (tree_room c.args.records.now c.args.boxes.now c.args.limit)
    (rw c.from.ensures at c.build_tree.ensures.answer, rw c.from.ensures at c.build_tree.ensures.after) in
    record { answer = r.0; after = r.1 }
