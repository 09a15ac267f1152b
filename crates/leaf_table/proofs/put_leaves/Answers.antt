-- What is left to prove of `put_leaves`. Assumes nothing.
use Rattle.std.proofs.Common.{sym, ◌∙◌}
use Rattle.leaf_table.specs.Inner.{node_at}
use Rattle.leaf_table.proofs.LeafList.{reporting-first, reporting-leaf, reporting-skip, reporting-last}
use Rattle.leaf_table.proofs.put_leaves.Goals as goal
use Rattle.leaf_table.proofs.put_leaves.Goals.{then-is_reported, else-is_reported}

pub loop-i-init : goal.loop-i-init
loop-i-init c = reporting-first c.requires.n_in_bounds.2

pub loop-i-preserved : goal.loop-i-preserved
unfolding node_at
loop-i-preserved c =
    let less = c.loop-i-test.true in
    let test = sym c.is_reported.ensures in
    elim c.if-is_reported.branch [
      | then-is_reported w ↦ rw (w.leaves-is, w.dry-is, w.reported-is, w.put_leaf.ensures, w.dry_bit-dry.ensures.is) (reporting-leaf less (test ∙ w.if-is_reported.true) c.loop-i.invariant)
      | else-is_reported w ↦ rw (w.leaves-is, w.dry-is, w.reported-is) (reporting-skip less (test ∙ w.if-is_reported.false) c.loop-i.invariant)
    ]

pub returns : goal.returns
returns c = let r = reporting-last c.loop-i-test.false c.loop-i.invariant in record { reported = r.0; dry = r.1.0; table = r.1.1 }
