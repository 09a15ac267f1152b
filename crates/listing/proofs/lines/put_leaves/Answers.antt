-- `listing::lines::put_leaves` meets its contract: a leaf's line is the next of those that are still to be written. Assumes nothing.
use Rattle.std.proofs.Common.{arith}
use Rattle.base.proofs.Filling.{filling-last}
use Rattle.listing.proofs.Leaves.{leaves-next, leaves-none}
use Rattle.listing.proofs.Pieces.{piece, piece-fits}
use Rattle.listing.proofs.lines.put_leaves.Goals as goal

pub put_leaf-end-requires : goal.put_leaf-end-requires
put_leaf-end-requires c =
    let runs = c.as_chunks.ensures in
    let next = leaves-next c.args.leaves.now c.args.count _ runs.front runs.front_len c.requires.0 c.loop-leaf.leaf-index c.loop-leaf-test.true in
    piece-fits _ _ (rw next at c.loop-leaf.invariant)

pub loop-leaf-preserved : goal.loop-leaf-preserved
loop-leaf-preserved c =
    let runs = c.as_chunks.ensures in
    let next = leaves-next c.args.leaves.now c.args.count _ runs.front runs.front_len c.requires.0 c.loop-leaf.leaf-index c.loop-leaf-test.true in
    piece _ _ (rw next at c.loop-leaf.invariant) c.put_leaf-end.ensures

pub returns : goal.returns
returns c =
    let runs = c.as_chunks.ensures in
    let z = rw (leaves-none c.args.leaves.now c.args.count _ runs.front runs.front_len c.requires.0 c.loop-leaf.leaf-index c.loop-leaf-test.false) at c.loop-leaf.invariant in
    (omega (arith, z.left), filling-last z)
