-- `far` of an axis by images meets its contract: each arm is a case of the definition. Assumes nothing.
use Rattle.gates.specs.Inner.{far_images}
use Rattle.gates.proofs.AxisImagesAxisTest.far.Goals as goal

pub returns-then-lo-hi : goal.returns-then-lo-hi
unfolding far_images
returns-then-lo-hi c = rw (c.clear.ensures, c.if-lo-hi.true)

pub returns : goal.returns
unfolding far_images
returns c = rw (c.far_ends.ensures, c.if-lo-hi.false)
