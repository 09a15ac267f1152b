-- `frame_limits::long` meets its contract. The code's test of the length is the definition.
-- Assumes nothing.
use mathlib.Core.Path.{refl}
use Rattle.frame_limits.specs.Limits.{long}
use Rattle.frame_limits.proofs.long.Goals as goal

pub returns : goal.returns
unfolding long
returns c = refl
