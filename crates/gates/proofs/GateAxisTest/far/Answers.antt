-- `far` of a gate meets its contract: the two tests on what `larger` gives. Assumes nothing.
use Rattle.gates.specs.Inner.{far_of}
use Rattle.gates.proofs.GateAxisTest.far.Goals as goal

pub returns : goal.returns
unfolding far_of
returns c = rw (c.larger.ensures, c.larger-2.ensures)
