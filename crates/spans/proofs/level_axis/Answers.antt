-- `spans::level_axis` meets its contract: the turns of both ends. Assumes nothing.
use Rattle.spans.specs.Inner.{level_axis}
use Rattle.spans.proofs.level_axis.Goals as goal

pub returns : goal.returns
unfolding level_axis
returns c = rw (c.turns.ensures, c.turns-2.ensures)
