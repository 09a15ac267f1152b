-- What is left to prove of `tally`. Assumes nothing.
use Rattle.std.proofs.Common.{arith}
use Rattle.octants.proofs.Sorting.{tally-start, tally-step, count_small}
use Rattle.octants.proofs.tally.Goals as goal

pub loop-i-init : goal.loop-i-init
loop-i-init c = tally-start _ _ _ _ _ c.requires.1

pub overflow_add-counts : goal.overflow_add-counts
overflow_add-counts c = omega (arith, count_small c.loop-i.invariant c.loop-i-test.true _ c.octant-o.ensures.is)

pub loop-i-preserved : goal.loop-i-preserved
loop-i-preserved c = tally-step c.loop-i.invariant c.loop-i-test.true _ c.octant-o.ensures.is (omega arith) (omega arith)
