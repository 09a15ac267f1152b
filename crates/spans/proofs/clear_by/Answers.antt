-- `spans::clear_by` meets its contract: the two tests of the gap. Assumes nothing.
use Rattle.touch.specs.Touch.{cutoff2}
use Rattle.spans.specs.Inner.{clear_by}
use Rattle.spans.proofs.clear_by.Goals as goal

pub returns : goal.returns
unfolding clear_by cutoff2
returns c = rw c.larger-gap.ensures
