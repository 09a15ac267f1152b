-- `build_tree` meets its contract: without points at once; else by the builder's answer at the root (`planted`), whose room is capped
-- where no tree reaches (`room-is`). Assumes nothing.
use native.Mathlib.Omega.{arith}
use mathlib.Core.Path.{◌≡◌, refl, sym, ap, ◌∙◌}
use mathlib.Core.List.{List}
use Prim.Native.Nat.{ℕ, ◌+◌, ◌≤◌, min}
use lib.ListN.{length, replicate}
use lib.Ieee.{binary32, of_bits}
use Rattle.octree.specs.Tree.{Subtrees, tree_of, TreeTables, tree_tables}
use Rattle.octree.specs.Inner.{tree_room}
use Rattle.base.specs.Tables.{first_numbers}
use Rattle.base.proofs.Placing.{length_none}
use Rattle.octree.proofs.Planting.{full-of, filled_of, planted-at}
use Rattle.tree_tables.proofs.Answering.{most_nodes, tree-none, tree-some, cap-full, cap-fits, answered-none, answered-full, answered-fits}
use Rattle.tree_tables.proofs.build_tree.Goals as goal

empty : {x y : List ℕ} → length x ≡ length y → length x ≤ 0 → x ≡ y
empty {x} {y} e h = length_none x h ∙ sym (length_none y (omega arith))

-- no points
pub returns-then-center_order-water_order-eq0 : goal.returns-then-center_order-water_order-eq0
returns-then-center_order-water_order-eq0 c =
    let g = c.args in
    let tree : Subtrees = tree_of g.bounds g.centers.now g.waters.now in
    let room : ℕ = tree_room g.records.now g.boxes.now g.limit in
    let lent : TreeTables = tree_tables g.center_order.now g.water_order.now g.records.now g.boxes.now in
    let none : length c.count_up.new.s + length c.count_up-2.new.s ≡ 0 = c.if-center_order-water_order-eq0.true in
    let r =
    answered-none tree room lent _ _
    (tree-none g.bounds g.centers.now g.waters.now g.center_order.now g.water_order.now c.requires.0 c.requires.1 (omega (arith, c.count_up.auto.s, c.count_up-2.auto.s)))
    (empty c.count_up.auto.s (omega arith))
    (empty c.count_up-2.auto.s (omega arith)) in
    record { answer = r.0; after = r.1 }

-- no room
pub returns-in_default : goal.returns-in_default
returns-in_default c =
    let g = c.args in
    let tree : Subtrees = tree_of g.bounds g.centers.now g.waters.now in
    let room : ℕ = tree_room g.records.now g.boxes.now g.limit in
    let lent : TreeTables = tree_tables g.center_order.now g.water_order.now g.records.now g.boxes.now in
    let room-is : c.min-room.result ≡ min room most_nodes = cc in
    let some : length c.count_up.new.s + length c.count_up-2.new.s ≡ 0 → ⊥ = c.if-center_order-water_order-eq0.false in
    let p =
    planted-at _ _ _ _ _ _ _ _ _ _ tree
    (tree-some g.bounds g.centers.now g.waters.now g.center_order.now g.water_order.now c.requires.0 c.requires.1
    (λ e. some (omega (arith, e, c.count_up.auto.s, c.count_up-2.auto.s))) _ _ c.count_up.ensures c.count_up-2.ensures)
    c.in_default.ensures in
    let same-c : length c.build.new.corder ≡ length g.center_order.now = c.build.auto.corder ∙ c.count_up.auto.s in
    let same_w : length c.build.new.worder ≡ length g.water_order.now = c.build.auto.worder ∙ c.count_up-2.auto.s in
    let h = full-of _ _ _ _ _ _ _ _ _ _ p refl in
    let e = c.reset.ensures in
    let r =
    answered-full tree room lent _ _ _ _
    (cap-full g.bounds g.centers.now g.waters.now g.center_order.now g.water_order.now c.requires.0 c.requires.1 room _ room-is h)
    (e.corder_after ∙ ap first_numbers same-c)
    (e.worder_after ∙ ap first_numbers same_w)
    (e.records_after ∙ ap (λ (n : ℕ). replicate n 0) c.build.auto.records)
    (e.boxes_after ∙ ap (λ (n : ℕ). replicate n (of_bits binary32 0)) c.build.auto.boxes) in
    record { answer = r.0; after = r.1 }

-- room for all
pub returns : goal.returns
returns c =
    let g = c.args in
    let tree : Subtrees = tree_of g.bounds g.centers.now g.waters.now in
    let room : ℕ = tree_room g.records.now g.boxes.now g.limit in
    let lent : TreeTables = tree_tables g.center_order.now g.water_order.now g.records.now g.boxes.now in
    let room-is : c.min-room.result ≡ min room most_nodes = cc in
    let some : length c.count_up.new.s + length c.count_up-2.new.s ≡ 0 → ⊥ = c.if-center_order-water_order-eq0.false in
    let p =
    planted-at _ _ _ _ _ _ _ _ _ _ tree
    (tree-some g.bounds g.centers.now g.waters.now g.center_order.now g.water_order.now c.requires.0 c.requires.1
    (λ e. some (omega (arith, e, c.count_up.auto.s, c.count_up-2.auto.s))) _ _ c.count_up.ensures c.count_up-2.ensures)
    c.in-Some.ensures in
    let same-c : length c.build.new.corder ≡ length g.center_order.now = c.build.auto.corder ∙ c.count_up.auto.s in
    let same_w : length c.build.new.worder ≡ length g.water_order.now = c.build.auto.worder ∙ c.count_up-2.auto.s in
    let f = filled_of _ _ _ _ _ _ _ _ _ _ p _ refl in
    let r =
    answered-fits tree room lent _ _ _ _ _
    (cap-fits g.bounds g.centers.now g.waters.now g.center_order.now g.water_order.now c.requires.0 c.requires.1 room _ room-is f.0) f.1 same-c same_w in
    record { answer = r.0; after = r.1 }
