-- `frame_limits::ragged` meets its contract. The code's test of the length is the definition.
-- Assumes nothing.
use mathlib.Core.Path.{refl}
use Rattle.frame_limits.specs.Limits.{ragged}
use Rattle.frame_limits.proofs.ragged.Goals as goal

pub returns : goal.returns
unfolding ragged
returns c = refl
