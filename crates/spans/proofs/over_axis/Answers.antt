-- `spans::over_axis` meets its contract: the test of the image that `image_axis` gives. Assumes nothing.
use Rattle.touch.specs.Touch.{cutoff2}
use Rattle.spans.specs.Inner.{over_axis}
use Rattle.spans.proofs.over_axis.Goals as goal

pub returns : goal.returns
unfolding over_axis cutoff2
returns c = rw c.image_axis-a.ensures
