-- What is left to prove of `build`: at each turn the octant has the points that `divide` counted (`visited`), and `planted` is what the
-- child promised, of the octant's own subtree. Assumes nothing.
use borrow.Author.Rules.{rules}
use native.Mathlib.Omega.{arith}
use mathlib.Core.Path.{◌≡◌, refl, ap, ◌∙◌}
use mathlib.Core.Logic.{inr}
use Prim.Native.Nat.{◌+◌, ◌-◌, max}
use Rattle.division.specs.Split.{max_depth}
use Rattle.octree.proofs.Children.{subtree-by, subtree-roots, subtree-some}
use Rattle.octree.proofs.Growing.{visited, both-within, begin, step-empty, step-child, child-full}
use Rattle.octree.proofs.Planting.{finish, planted, full-of, filled_of}
use Rattle.octree.proofs.build.+build.Goals as goal

-- no room for the node itself
pub returns-then-at-room : goal.returns-then-at-room
returns-then-at-room t c =
    let g = c.args in
    inr (omega (arith, c.if-at-room.true, subtree-some g.centers.now g.waters.now (max_depth - g.depth) g.at g.fc g.fw g.b g.corder.now g.worder.now), refl)

pub loop-o-init : goal.loop-o-init
loop-o-init t c =
    let d = c.divide-left.ensures in
    record {
      grows = begin _ _ c.divide-left.new.corder c.divide-left.new.worder (omega (arith, d.small)) (omega (arith, c.if-at-room.false)) d.centers.order d.waters.order;
      few = omega arith;
    }

pub overflow_add-nc : goal.overflow_add-nc
overflow_add-nc t c =
    let i = c.loop-o.invariant in
    let v = visited c.divide-left.ensures.centers c.divide-left.ensures.waters c.loop-o.o c.loop-o-test.true (omega arith) refl in
    let k = both-within i.grows v in
    omega arith

-- an octant without points
pub loop-o-preserved-then-nc-nw-eq0 : goal.loop-o-preserved-then-nc-nw-eq0
loop-o-preserved-then-nc-nw-eq0 t c =
    let i = c.loop-o.invariant in
    let v = visited c.divide-left.ensures.centers c.divide-left.ensures.waters c.loop-o.o c.loop-o-test.true (omega arith) refl in
    record { grows = step-empty i.grows v (omega (arith, c.if-nc-nw-eq0.true)); few = omega arith }

pub overflow_add-ce : goal.overflow_add-ce
overflow_add-ce t c =
    let i = c.loop-o.invariant in
    let v = visited c.divide-left.ensures.centers c.divide-left.ensures.waters c.loop-o.o c.loop-o-test.true (omega arith) refl in
    let k = both-within i.grows v in
    omega arith

pub overflow_add-we : goal.overflow_add-we
overflow_add-we t c =
    let i = c.loop-o.invariant in
    let v = visited c.divide-left.ensures.centers c.divide-left.ensures.waters c.loop-o.o c.loop-o-test.true (omega arith) refl in
    let k = both-within i.grows v in
    omega arith

pub slice_bounds-build-end : goal.slice_bounds-build-end
slice_bounds-build-end t c =
    let i = c.loop-o.invariant in
    let v = visited c.divide-left.ensures.centers c.divide-left.ensures.waters c.loop-o.o c.loop-o-test.true (omega arith) refl in
    let k = both-within i.grows v in
    search rules

pub slice_bounds-build-end-in-loop-o : goal.slice_bounds-build-end-in-loop-o
slice_bounds-build-end-in-loop-o t c =
    let i = c.loop-o.invariant in
    let v = visited c.divide-left.ensures.centers c.divide-left.ensures.waters c.loop-o.o c.loop-o-test.true (omega arith) refl in
    let k = both-within i.grows v in
    search rules

-- the child has no room
pub returns-in_err-child : goal.returns-in_err-child
returns-in_err-child t c =
    let g = c.args in
    let i = c.loop-o.invariant in
    let v = visited c.divide-left.ensures.centers c.divide-left.ensures.waters c.loop-o.o c.loop-o-test.true (omega arith) refl in
    let h = full-of _ _ _ _ _ _ _ _ _ _ (planted i.grows v c.child.ensures c.in_err-child.ensures) refl in
    inr (rw (subtree-by g.centers.now g.waters.now g.at g.fc g.fw g.b g.corder.now g.worder.now g.depth c.divide-left.result c.requires.depth-ok c.divide-left.ensures.is) (child-full i.grows v c.if-nc-nw-eq0.false h), c.from_residual.ensures)

-- the child is done
pub loop-o-preserved : goal.loop-o-preserved
loop-o-preserved t c =
    let g = c.args in
    let i = c.loop-o.invariant in
    let v = visited c.divide-left.ensures.centers c.divide-left.ensures.waters c.loop-o.o c.loop-o-test.true (omega arith) refl in
    let f = filled_of _ _ _ _ _ _ _ _ _ _ (planted i.grows v c.child.ensures c.in_ok-child.ensures) c.in_ok-child.child refl in
    record {
      grows =
          step-child i.grows v c.if-nc-nw-eq0.false c.in_ok-child.child.nodes c.max-deep.result f.1 f.2 (c.max-deep.ensures ∙ ap (max c.loop-o.deep) f.3) (omega (arith, f.0, f.2))
          (subtree-roots g.centers.now g.waters.now (max_depth - (g.depth + 1)) _ _ _ _ _ _) c.requires.room-r c.requires.room-b c.build.auto.corder c.build.auto.worder;
      few = omega arith;
    }

pub returns : goal.returns
returns t c =
    let g = c.args in
    let i = c.loop-o.invariant in
    let none_left : 8 - c.loop-o.o ≡ 0 = omega (arith, c.loop-o-test.false) in
    rw (subtree-by g.centers.now g.waters.now g.at g.fc g.fw g.b g.corder.now g.worder.now g.depth c.divide-left.result c.requires.depth-ok c.divide-left.ensures.is)
    (finish _ _ i.grows none_left c.requires.room-r c.requires.room-b _ _ _ _ (omega arith) (omega arith) c.put_node.ensures.records_after c.put_node.ensures.boxes_after)
