-- `frame_limits::exceeds` meets its contract. The code's test with what `is_finite32` answers is the definition.
-- Assumes nothing.
use Rattle.frame_limits.specs.Limits.{exceeds}
use Rattle.frame_limits.proofs.exceeds.Goals as goal

pub returns : goal.returns
unfolding exceeds
returns c = rw c.is_finite32.ensures
