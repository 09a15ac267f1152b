-- `union_find::union_roots` meets its contract: `find_root` keeps every root, so its second call finds the root that b had at entry.
-- Assumes nothing.
use native.Mathlib.Omega.{arith}
use lib.ListN.{length-set}
use borrow.Author.Rules.{rules}
use Rattle.union_find.proofs.Joins.{sound-first, length-first, roots-below, join_apart, join-same}
use Rattle.union_find.proofs.union_roots.Goals as goal

pub find_root-b_root-requires : goal.find_root-b_root-requires
find_root-b_root-requires c =
    let e = c.find_root-a_root.ensures.parent_after in (
      rw e (sound-first _ _ _ c.requires.0 c.requires.1 c.requires.2),
      rw (e, length-first _ _ _ c.requires.0 c.requires.1 c.requires.2) (omega (arith, c.requires.1, c.requires.2)),
    )

pub bounds-parent-b_root : goal.bounds-parent-b_root
bounds-parent-b_root c =
    let h =
    roots-below _ _ _ c.requires.0 c.requires.1 c.requires.2 c.find_root-a_root.ensures.value c.find_root-a_root.ensures.parent_after c.find_root-b_root.ensures.value
    c.find_root-b_root.ensures.parent_after in
    omega arith

pub shape_of-parent-then-a_root-b_root : goal.shape_of-parent-then-a_root-b_root
shape_of-parent-then-a_root-b_root c = simp length-set (search rules)

pub returns-then-a_root-b_root : goal.returns-then-a_root-b_root
returns-then-a_root-b_root c =
    join_apart _ _ _ c.requires.0 c.requires.1 c.requires.2 c.find_root-a_root.ensures.value c.find_root-a_root.ensures.parent_after c.find_root-b_root.ensures.value
    c.find_root-b_root.ensures.parent_after c.if-a_root-b_root.true

pub returns-else-a_root-b_root : goal.returns-else-a_root-b_root
returns-else-a_root-b_root c =
    join-same _ _ _ c.requires.0 c.requires.1 c.requires.2 c.find_root-a_root.ensures.value c.find_root-a_root.ensures.parent_after c.find_root-b_root.ensures.value
    c.find_root-b_root.ensures.parent_after c.if-a_root-b_root.false
