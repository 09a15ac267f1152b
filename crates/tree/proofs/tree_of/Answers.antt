-- `tree::tree_of` meets its contract: the centers stand at the start of the local array, so the tree over it is that of the pick lists
-- (`over-centers`). Assumes nothing.
use mathlib.Core.Path.{ap, subst, ◌∙◌}
use mathlib.Core.List.{List, []}
use native.Mathlib.Omega.{arith}
use lib.Ieee.{Float}
use Rattle.pick_lists.specs.Sound.{copies}
use Rattle.pick_lists.specs.Input.{Input, given}
use Rattle.pick_lists.proofs.SoundLists.{sound-lists}
use Rattle.octree.specs.Tree.{Subtrees, TreeTables, tree_tables}
use Rattle.octree.specs.Inner.{tree_room}
use Rattle.tree_tables.proofs.Answering.{Answers}
use Rattle.tree.specs.Inner.{tree_over}
use Rattle.tree.proofs.Outcomes.{over-centers}
use Rattle.tree.proofs.tree_of.Goals as goal

pub put_centers-requires : goal.put_centers-requires
put_centers-requires c = record { picks_value = c.requires.picks_value; starts_in_bounds = omega (arith, (sound-lists c.args.solutes.now c.args.starts.now c.args.picks.now c.requires.picks_value).few) }

pub overflow_sub-starts : goal.overflow_sub-starts
overflow_sub-starts c = omega (arith, (sound-lists c.args.solutes.now c.args.starts.now c.args.picks.now c.requires.picks_value).number)

pub tree_over-requires : goal.tree_over-requires
tree_over-requires c =
    let few = (sound-lists c.args.solutes.now c.args.starts.now c.args.picks.now c.requires.picks_value).few in
    let size = c.put_centers.auto.out in
    record { n_in_bounds = (omega arith, c.requires.m_in_bounds.0, omega arith, c.requires.m_in_bounds.1); n_in_bounds_2 = c.requires.starts_in_bounds }

pub returns : goal.returns
returns c =
    let back : TreeTables = let l = c.tree_over.new in tree_tables l.center_order l.water_order l.records l.boxes in
    let input : Input = given c.args.cell c.args.solutes.now [] c.args.starts.now c.args.picks.now in
    let lent : TreeTables = tree_tables c.args.center_order.now c.args.water_order.now c.args.records.now c.args.boxes.now in
    let over = c.tree_over in
    let n = copies c.args.starts.now in
    let tree : List Float → Subtrees = λ l. tree_over c.args.cell l n c.args.wrapped.now c.args.m in
    let room = tree_room c.args.records.now c.args.boxes.now c.args.limit in
    let r =
    subst (λ (g : Subtrees). Answers over.result room g n c.args.m lent back)
    (ap tree c.put_centers.ensures ∙ over-centers input _ c.args.wrapped.now c.args.m)
    (over.ensures.answer, over.ensures.after) in
    record { answer = r.0; after = r.1 }
