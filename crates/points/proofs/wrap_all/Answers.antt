-- What is left to prove of `wrap_all`. Assumes nothing.
use Rattle.points.proofs.Wrapping.{wrapping-first, wrapping-next, wrapping-last}
use Rattle.points.proofs.wrap_all.Goals as goal

pub loop-i-init : goal.loop-i-init
loop-i-init c = wrapping-first c.requires

pub loop-i-preserved : goal.loop-i-preserved
loop-i-preserved c = rw (c.wrap-p.ensures, c.point.ensures) (wrapping-next c.loop-i-test.true c.loop-i.invariant)

pub returns : goal.returns
returns c = wrapping-last c.loop-i-test.false c.loop-i.invariant
